-- The candidates of a search have chunks.
use Rattle.std.proofs.Common.{◌≡◌, Bool, true, false, List, [], ◌∷◌, filter, append-nil, ℤ, None, Option, Some, refl, sym, ◌∙◌, subst, true≢false, IsPermutation}
use Rattle.std.specs.Prelude.{All, Contains}
use Rattle.std.specs.List.{AllByRecursion}
use Rattle.std.proofs.lemmas.List.Elements.{All-contains_itself, All-filter, All-from_recursion, filter_passes, recursion_from_All}
use Rattle.std.proofs.lemmas.List.Sorted.{All-permutation, IsPermutation-refl, IsPermutation-sym}
use Rattle.sqlite_trees.specs.Tree.{IsAscending}
use Rattle.sqlite_keyed.proofs.ListLemmas.{all_weaker, ascending_weaker}
use Rattle.sc_bounds.specs.Moments.{AreMoments}
use Rattle.sc_history.specs.Part.{Part}
use Rattle.sc_sort.specs.declared.key.Key.{Key}
use Rattle.sc_sort.specs.Spec.{is_of_time}
use Rattle.sc_expr.specs.Query.{Asked}
use Rattle.sc_page.proofs.Growing.{pairs_from_ascending}
use Rattle.sc_walk.specs.Walk.{begins_with_time, is_candidate}
use Rattle.sc_chain.specs.Chunks.{AreBefore, AreChunks, AreLinked, ComesBefore, IsCovered, IsOneChunk, itself, through}
use Rattle.sc_chain.proofs.Arranging as arranging
use Rattle.sc_chain.proofs.Chunking.{all_both, has_starts}
use Rattle.sc_chain.proofs.Dividing as dividing
use Rattle.sc_chain.proofs.Ranges.{IsRange, meets, no_later, no_later_other, no_later_trans, precedes, reaches, sooner}

linked_on : (sort : List Key) (parts : List Part) (p q r : Part) → AreLinked sort parts p q → AreLinked sort parts q r → AreLinked sort parts p r
linked_on sort parts p q r a (itself) = a
linked_on sort parts p q r a (through s _ b there t) = through s r (linked_on sort parts p q s a b) there t

-- ---- with another first key all parts are one chunk

one_chunk : (sort : List Key) (candidates : List Part) → begins_with_time sort ≡ false → AreChunks sort candidates (candidates ∷ [])
one_chunk sort candidates other = record {
  same = subst (IsPermutation candidates) (sym (append-nil candidates)) (IsPermutation-refl candidates);
  whole = All-from_recursion (IsOneChunk sort candidates) (candidates ∷ []) (All-from_recursion (λ p. All (AreLinked sort candidates p) candidates) candidates (rows candidates), tt);
  ordered = pairs_from_ascending (AreBefore sort) (candidates ∷ []) (tt, tt);
}
  where
    row : (p : Part) → All (AreLinked sort candidates p) candidates
    row p =
        All-from_recursion (AreLinked sort candidates p) candidates
        (all_weaker (Contains candidates) (AreLinked sort candidates p) (λ q there. through p q itself there (λ e. absurd (true≢false (sym e ∙ other)))) candidates (recursion_from_All (Contains candidates) candidates (All-contains_itself candidates)))

    rows : (ps : List Part) → AllByRecursion (λ p. All (AreLinked sort candidates p) candidates) ps
    rows [] = tt
    rows (p ∷ ps) = (row p, rows ps)

-- ---- where it is the time

module _ (key : Key) (keys : List Key) (is_time : is_of_time key ≡ true) (candidates : List Part) where
  abbrev sort : List Key
  sort = key ∷ keys

  record IsMember (p : Part) : Type 0 where
    pub there : Contains candidates p
    pub range : IsRange p.bounds.starts

  record Ends (p q : Part) : Type 0 where
    pub first : IsMember p
    pub second : IsMember q
    pub no_later : no_later key.down p.bounds.starts q.bounds.starts ≡ true

  abbrev test : Part → Part → Bool
  test p q = reaches key.down p.bounds.starts q.bounds.starts

  linked : (p q : Part) → Ends p q → test p q ≡ true → AreLinked sort candidates p q × AreLinked sort candidates q p
  linked p q e t =
      let m = meets key.down p.bounds.starts q.bounds.starts e.first.range e.second.range e.no_later t in
      (through p q itself e.second.there (λ _. m), through q p itself e.first.there (λ _. (m.0, m.2, m.1)))

  apart : (p q : Part) → test p q ≡ false → ComesBefore sort p q
  apart p q t = (is_time, precedes key.down p.bounds.starts q.bounds.starts t)

  before : (p q r : Part) → Ends p q → ComesBefore sort q r → ComesBefore sort p r
  before p q r e b = (is_time, sooner key.down p.bounds.starts q.bounds.starts r.bounds.starts e.second.range e.no_later b.1)

  abbrev ends_first : Part → Part → Bool
  ends_first p q = no_later key.down p.bounds.starts q.bounds.starts

  abbrev IsFirst : Part → Part → Type 0
  IsFirst p q = ends_first p q ≡ true

  abbrev other : (p q : Part) → ends_first p q ≡ false → IsFirst q p
  other p q e = no_later_other key.down p.bounds.starts q.bounds.starts e

  abbrev trans : (p q r : Part) → IsFirst p q → IsFirst q r → IsFirst p r
  trans p q r e f = no_later_trans key.down p.bounds.starts q.bounds.starts r.bounds.starts e f

  sorted : List Part
  sorted = arranging.arranged ends_first IsFirst (λ p q e. e) other trans candidates

  rises : IsAscending IsFirst sorted
  unfolding sorted
  rises = arranging.rises ends_first IsFirst (λ p q e. e) other trans candidates

  same : IsPermutation sorted candidates
  unfolding sorted
  same = arranging.same ends_first IsFirst (λ p q e. e) other trans candidates

  ascending_members : (ps : List Part) → AllByRecursion IsMember ps → IsAscending IsFirst ps → IsAscending Ends ps
  ascending_members [] all up = tt
  ascending_members (p ∷ ps) all up = (all_both IsMember (IsFirst p) (Ends p) (λ q m f. record { first = all.0; second = m; no_later = f }) ps all.1 up.0, ascending_members ps all.1 up.1)

  runs : AllByRecursion IsMember sorted → dividing.AreRuns test Ends (ComesBefore sort) (AreLinked sort candidates) (λ p. itself) (linked_on sort candidates) linked apart before sorted (dividing.runs_of test Ends (ComesBefore sort) (AreLinked sort candidates) (λ p. itself) (linked_on sort candidates) linked apart before sorted)
  runs all = dividing.are_runs test Ends (ComesBefore sort) (AreLinked sort candidates) (λ p. itself) (linked_on sort candidates) linked apart before sorted (ascending_members sorted all rises)

  time_chunks : AllByRecursion IsMember candidates → (chunks : List (List Part)) × AreChunks sort candidates chunks
  time_chunks all = go _ (runs members)
    where
      members : AllByRecursion IsMember sorted
      members = recursion_from_All IsMember sorted (All-permutation IsMember candidates sorted (IsPermutation-sym _ _ same) (All-from_recursion IsMember candidates all))

      each : (R : Part → Part → Type 0) (ps qs : List Part) → AllByRecursion (λ p. AllByRecursion (R p) qs) ps → All (λ p. All (R p) qs) ps
      each R ps qs all = All-from_recursion (λ p. All (R p) qs) ps (all_weaker (λ p. AllByRecursion (R p) qs) (λ p. All (R p) qs) (λ p. All-from_recursion (R p) qs) ps all)

      go : (chunks : List (List Part)) → dividing.AreRuns test Ends (ComesBefore sort) (AreLinked sort candidates) (λ p. itself) (linked_on sort candidates) linked apart before sorted chunks → (chunks : List (List Part)) × AreChunks sort candidates chunks
      go chunks r = (
        chunks,
        record {
          same = subst (IsPermutation candidates) (sym r.same) (IsPermutation-sym _ _ same);
          whole = All-from_recursion (IsOneChunk sort candidates) chunks (all_weaker _ (IsOneChunk sort candidates) (λ chunk. each (AreLinked sort candidates) chunk chunk) chunks r.whole);
          ordered = pairs_from_ascending (AreBefore sort) chunks (ascending_weaker _ (AreBefore sort) (λ a b. each (ComesBefore sort) a b) chunks r.ordered);
        },
      )

has_range : (part : Part) → AreMoments part.bounds.starts → (part.bounds.starts ≡ None → ⊥) → IsRange part.bounds.starts
has_range part m some = go part.bounds.starts refl m
  where
    go : (starts : Option (ℤ × ℤ)) → part.bounds.starts ≡ starts → AreMoments starts → IsRange starts
    go None e m = absurd (some e)
    go (Some range) e m = m

pub chunks_are : (asked : Asked) (parts : List Part) → All IsCovered parts → (chunks : List (List Part)) × AreChunks asked.sort (filter (is_candidate asked) parts) chunks
chunks_are asked parts covered = go asked.sort
  where
    ranges : AllByRecursion (λ p. IsRange p.bounds.starts) (filter (is_candidate asked) parts)
    ranges =
        all_both IsCovered (λ p. is_candidate asked p ≡ true) (λ p. IsRange p.bounds.starts) (λ p k c. has_range p k.bounds.starts (λ none. has_starts asked p none c)) (filter (is_candidate asked) parts)
        (recursion_from_All IsCovered (filter (is_candidate asked) parts) (All-filter (is_candidate asked) IsCovered parts covered))
        (recursion_from_All (λ p. is_candidate asked p ≡ true) (filter (is_candidate asked) parts) (filter_passes (is_candidate asked) parts))

    by : (key : Key) (keys : List Key) (b : Bool) → is_of_time key ≡ b → (chunks : List (List Part)) × AreChunks (key ∷ keys) (filter (is_candidate asked) parts) chunks
    by key keys false e = (filter (is_candidate asked) parts ∷ [], one_chunk (key ∷ keys) (filter (is_candidate asked) parts) e)
    by key keys true e =
        time_chunks key keys e (filter (is_candidate asked) parts)
        (all_both (Contains (filter (is_candidate asked) parts)) (λ p. IsRange p.bounds.starts) (IsMember key keys e (filter (is_candidate asked) parts)) (λ p there range. record { there = there; range = range }) (filter (is_candidate asked) parts)
        (recursion_from_All (Contains (filter (is_candidate asked) parts)) (filter (is_candidate asked) parts) (All-contains_itself (filter (is_candidate asked) parts))) ranges)

    go : (keys : List Key) → (chunks : List (List Part)) × AreChunks keys (filter (is_candidate asked) parts) chunks
    go [] = (filter (is_candidate asked) parts ∷ [], one_chunk [] (filter (is_candidate asked) parts) refl)
    go (key ∷ keys) = by key keys (is_of_time key) refl
