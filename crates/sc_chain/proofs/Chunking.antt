-- What is opened lies within what the chunks open.
use Rattle.std.proofs.Common.{◌≡◌, ◌≤◌, ◌+◌, ℕ, ℤ, ◌<ℤ◌, Bool, true, false, ◌&&◌, cond, nat_le, List, [], ◌∷◌, ◌++◌, filter, length, length-append, Option, Some, None, refl, sym, ap, ◌∙◌, subst, arith, Ordering, Less, Equal, Greater, is_lt, map, IsPermutation, true≢false, ◌⊎◌, inl, inr}
use Rattle.std.specs.Prelude.{All, Contains}
use Rattle.std.specs.List.{AllByRecursion, list_all}
use Rattle.std.specs.Ordering.{int_cmp, MatchOrdering}
use Rattle.std.proofs.lemmas.Bool.Decides.{nat_tests}
use Rattle.std.proofs.lemmas.Cmp.{int_ranked}
use Rattle.std.proofs.lemmas.Int.{ints}
use Rattle.std.proofs.lemmas.List.Concat.{flat_map-append}
use Rattle.std.proofs.lemmas.List.Elements.{All-contains, All-contains_itself, All-filter, All-from_recursion, Contains-append_cases, filter-append, recursion_from_All}
use Rattle.std.proofs.lemmas.List.Sorted.{All-permutation, Contains-permutation, length_permutation}
use Rattle.sqlite_trees.specs.Tree.{IsAscending}
use Rattle.sqlite_keyed.proofs.ListLemmas.{all-append, all-filter, all-flat_map, all_kept, all_weaker, filter_all, IsPermutation-filter}
use Rattle.sqlite_keyed.proofs.RuleLemmas.{first_of_both, second_of_both}
use Rattle.sc_bounds.specs.Moments.{AreMoments, HasMoment}
use Rattle.sc_bounds.specs.Sets.{Covers}
use Rattle.sc_item.specs.Feature.{Feature}
use Rattle.sc_part.specs.Scan.{reach}
use Rattle.sc_history.specs.Part.{Part}
use Rattle.sc_shelf.specs.Kept.{all_items}
use Rattle.sc_sort.specs.declared.key.Key.{Key}
use Rattle.sc_sort.specs.declared.value.SortValue.TheVariants.{Moment}
use Rattle.sc_sort.specs.Order.{order_by, there}
use Rattle.sc_expr.specs.Query.{Asked}
use Rattle.sc_eval.specs.Selection.{is_listed}
use Rattle.sc_need.specs.Need.{need_of}
use Rattle.sc_need.specs.Match.{may_lie, may_match, may_touch}
use Rattle.sc_page.specs.Search.{is_asked}
use Rattle.sc_page.proofs.Growing.{ascending_from_pairs}
use Rattle.sc_walk.specs.Walk.{found, front, is_ahead, is_candidate, is_opened, is_within, may_follow}
use Rattle.sc_walk.proofs.Candidates.{same_found}
use Rattle.sc_walk.proofs.Taking.{items_of_both}
use Rattle.sc_walk.proofs.Times.{time_value}
use Rattle.sc_chain.specs.Chunks.{AreBefore, AreChunks, ComesBefore, IsBefore, IsCovered, IsOpenedByChunks, parts_of}

-- ---- what stands in a part that comes before another is ahead of it

is_less : (a b : ℤ) → a <ℤ b → is_lt (int_cmp a b) ≡ true
is_less a b lt = go (int_cmp a b) refl (int_ranked a b (int_cmp a b) refl)
  where
    go : (o : Ordering) → int_cmp a b ≡ o → MatchOrdering o (a <ℤ b) (a ≡ b) (b <ℤ a) → is_lt (int_cmp a b) ≡ true
    go Less e r = ap is_lt e
    go Equal e r = absurd (omega (arith, ints, r, lt))
    go Greater e r = absurd (omega (arith, ints, r, lt))

-- a candidate has starts
pub has_starts : (asked : Asked) (part : Part) → part.bounds.starts ≡ None → is_candidate asked part ≡ true → ⊥
unfolding is_candidate may_match
has_starts asked part none e =
    let need = need_of asked.select in
    let m = first_of_both (may_match need part.bounds part.name) (may_follow asked.sort asked.after part) e in
    let times = first_of_both (is_listed need.collections part.name.collection && (may_lie need.starts part.bounds.starts && may_lie need.ends part.bounds.ends)) (list_all (may_touch part.bounds.place) need.places) m in
    let both = second_of_both (is_listed need.collections part.name.collection) (may_lie need.starts part.bounds.starts && may_lie need.ends part.bounds.ends) times in
    let starts = first_of_both (may_lie need.starts part.bounds.starts) (may_lie need.ends part.bounds.ends) both in
    true≢false (sym (subst (λ s. may_lie need.starts s ≡ true) none starts))

before_front : (down : Bool) (part : Part) (at : ℤ) → AreMoments part.bounds.starts → (part.bounds.starts ≡ None → ⊥) → ((b : ℤ) → HasMoment part.bounds.starts b → IsBefore down at b)
    → is_lt (order_by down (Some (Moment at)) (front down part)) ≡ true
before_front down part at m some before = go down part.bounds.starts refl m before
  where
    go : (d : Bool) (starts : Option (ℤ × ℤ)) → part.bounds.starts ≡ starts → AreMoments starts → ((b : ℤ) → HasMoment starts b → IsBefore d at b) → is_lt (order_by d (Some (Moment at)) (front d part)) ≡ true
    go d None e m b = absurd (some e)
    go true (Some range) e m b = rw e (is_less range.1 at (b range.1 (m, omega (arith, ints))))
    go false (Some range) e m b = rw e (is_less at range.0 (b range.0 (omega (arith, ints), m)))

ahead_of : (sort : List Key) (p part : Part) (item : Feature) → AreMoments part.bounds.starts → (part.bounds.starts ≡ None → ⊥) → ComesBefore sort p part → HasMoment p.bounds.starts item.start → is_ahead sort part item ≡ true
ahead_of [] p part item m some before h = absurd before
ahead_of (key ∷ keys) p part item m some before h =
    let lt = before_front key.down part item.start m some (λ b. before.1 item.start b h) in
    rw (before.0, time_value key item before.0) lt

all_ahead : (sort : List Key) (p part : Part) → IsCovered p → IsCovered part → (part.bounds.starts ≡ None → ⊥) → ComesBefore sort p part → AllByRecursion (λ item. is_ahead sort part item ≡ true) p.items
all_ahead sort p part covered c some before = go p.items (recursion_from_All (Covers p.bounds) (map reach p.items) covered.covers)
  where
    go : (items : List Feature) → AllByRecursion (Covers p.bounds) (map reach items) → AllByRecursion (λ item. is_ahead sort part item ≡ true) items
    go [] all = tt
    go (item ∷ items) all = (ahead_of sort p part item c.bounds.starts some before all.0.start, go items all.1)

-- ---- the chunks before that of a part

record Earlier (sort : List Key) (chunks : List (List Part)) (part : Part) : Type 0 where
  pub before : List (List Part)
  pub chunk : List Part
  pub after : List (List Part)
  pub split : chunks ≡ before ++ chunk ∷ after
  pub there : Contains chunk part
  pub first : AllByRecursion (λ p. ComesBefore sort p part) (parts_of before)

middle : {X : Type 0} (P : X → Type 0) (before : List X) (x : X) (after : List X) → AllByRecursion P (before ++ x ∷ after) → P x
middle P [] x after all = all.0
middle P (y ∷ before) x after all = middle P before x after all.1

earlier : (sort : List Key) (chunks : List (List Part)) (part : Part) → IsAscending (AreBefore sort) chunks → Contains (parts_of chunks) part → Earlier sort chunks part
earlier sort [] part up (k, lt, at) = absurd (omega (arith, lt))
earlier sort (chunk ∷ chunks) part up stands = go (Contains-append_cases chunk (parts_of chunks) part stands) (earlier sort chunks part up.1)
  where
    go : Contains chunk part ⊎ Contains (parts_of chunks) part → (Contains (parts_of chunks) part → Earlier sort chunks part) → Earlier sort (chunk ∷ chunks) part
    go (inl c) more = record { before = []; chunk = chunk; after = chunks; split = refl; there = c; first = tt }
    go (inr c) more =
        let e = more c in
        let b : AreBefore sort chunk e.chunk = middle (AreBefore sort chunk) e.before e.chunk e.after (subst (AllByRecursion (AreBefore sort chunk)) e.split up.0) in
        record {
          before = chunk ∷ e.before;
          chunk = e.chunk;
          after = e.after;
          split = ap (λ l. chunk ∷ l) e.split;
          there = e.there;
          first =
              all-append (λ p. ComesBefore sort p part) chunk (parts_of e.before)
              (all_weaker (λ p. All (ComesBefore sort p) e.chunk) (λ p. ComesBefore sort p part) (λ p all. All-contains (ComesBefore sort p) e.chunk part all e.there) chunk (recursion_from_All (λ p. All (ComesBefore sort p) e.chunk) chunk b)) e.first;
        }

-- ---- how many are ahead

module _ (asked : Asked) (part : Part) where
  abbrev ahead : List Part → ℕ
  ahead parts = length (filter (is_ahead asked.sort part) (found asked parts))

  ahead_both : (ps qs : List Part) → ahead (ps ++ qs) ≡ ahead ps + ahead qs
  ahead_both ps qs =
      ap (λ l. length (filter (is_ahead asked.sort part) (filter (is_asked asked) l))) (items_of_both ps qs)
      ∙ ap (λ l. length (filter (is_ahead asked.sort part) l)) (filter-append (is_asked asked) (all_items ps) (all_items qs))
      ∙ ap length (filter-append (is_ahead asked.sort part) (found asked ps) (found asked qs))
      ∙ length-append (filter (is_ahead asked.sort part) (found asked ps)) (filter (is_ahead asked.sort part) (found asked qs))

  ahead_filtered : (test : Part → Bool) (ps : List Part) → ahead (filter test ps) ≤ ahead ps
  ahead_filtered test [] = omega arith
  ahead_filtered test (p ∷ ps) = go (test p) (ahead_filtered test ps)
    where
      go : (b : Bool) → ahead (filter test ps) ≤ ahead ps → ahead (cond b (p ∷ filter test ps) (filter test ps)) ≤ ahead (p ∷ ps)
      go true le = let l = ahead_both (p ∷ []) (filter test ps) in let r = ahead_both (p ∷ []) ps in omega (arith, le, l, r)
      go false le = let r = ahead_both (p ∷ []) ps in omega (arith, le, r)

  ahead_same : (ps qs : List Part) → IsPermutation ps qs → ahead ps ≡ ahead qs
  ahead_same ps qs same = sym (length_permutation _ _ (IsPermutation-filter (is_ahead asked.sort part) (found asked ps) (found asked qs) (same_found asked ps qs same)))

  ahead_all : (ps : List Part) → AllByRecursion (λ p. AllByRecursion (λ item. is_ahead asked.sort part item ≡ true) p.items) ps → ahead ps ≡ length (found asked ps)
  ahead_all ps all =
      let P : Feature → Type 0 = λ item. is_ahead asked.sort part item ≡ true in
      ap length (filter_all (is_ahead asked.sort part) (found asked ps) (all-filter P (is_asked asked) (all_items ps) (all-flat_map P (λ p. p.items) ps all)))

contains_filter : {X : Type 0} (test : X → Bool) (xs : List X) (x : X) → Contains xs x → test x ≡ true → Contains (filter test xs) x
contains_filter {X} test xs x there e =
    let P : X → Type 0 = λ y. test y ≡ true → Contains (filter test xs) y in
    All-contains P xs x (All-from_recursion P xs (all_kept (Contains (filter test xs)) test xs (recursion_from_All (Contains (filter test xs)) (filter test xs) (All-contains_itself (filter test xs))))) there e

le_told : (a b : ℕ) → nat_le a b ≡ true → a ≤ b
le_told a b e = grind (arith, nat_tests)

pub all_both : {X : Type 0} (P Q R : X → Type 0) → ((x : X) → P x → Q x → R x) → (xs : List X) → AllByRecursion P xs → AllByRecursion Q xs → AllByRecursion R xs
all_both P Q R f [] p q = tt
all_both P Q R f (x ∷ xs) p q = (f x p.0 q.0, all_both P Q R f xs p.1 q.1)

all_front : {X : Type 0} (P : X → Type 0) (xs ys : List X) → AllByRecursion P (xs ++ ys) → AllByRecursion P xs
all_front P [] ys all = tt
all_front P (x ∷ xs) ys all = (all.0, all_front P xs ys all.1)

pub opened_within : (asked : Asked) (parts : List Part) (chunks : List (List Part)) (part : Part) → All IsCovered parts → AreChunks asked.sort (filter (is_candidate asked) parts) chunks → Contains parts part
    → is_opened asked parts part ≡ true → IsOpenedByChunks asked chunks part
opened_within asked parts chunks part covered c is_there opened =
    let candidates = filter (is_candidate asked) parts in
    let candidate : is_candidate asked part ≡ true = first_of_both (is_candidate asked part) (is_within asked parts part) opened in
    let within : ahead asked part parts ≤ asked.limit = le_told _ _ (second_of_both (is_candidate asked part) (is_within asked parts part) opened) in
    let e = earlier asked.sort chunks part (ascending_from_pairs (AreBefore asked.sort) chunks c.ordered) (stands candidate) in
    let split : parts_of chunks ≡ parts_of e.before ++ parts_of (e.chunk ∷ e.after) = ap parts_of e.split ∙ flat_map-append (λ chunk. chunk) e.before (e.chunk ∷ e.after) in
    let all = recursion_from_All IsCovered (parts_of chunks) (All-permutation IsCovered candidates (parts_of chunks) c.same (All-filter (is_candidate asked) IsCovered parts covered)) in
    let front = all_front IsCovered (parts_of e.before) (parts_of (e.chunk ∷ e.after)) (subst (AllByRecursion IsCovered) split all) in
    let own : IsCovered part = All-contains IsCovered parts part covered is_there in
    let each = all_both IsCovered (λ p. ComesBefore asked.sort p part) (λ p. AllByRecursion (λ item. is_ahead asked.sort part item ≡ true) p.items) (λ p k b. all_ahead asked.sort p part k own (λ none. has_starts asked part none candidate) b) (parts_of e.before) front e.first in
    let known = ahead_all asked part (parts_of e.before) each in
    let more = ap (ahead asked part) split ∙ ahead_both asked part (parts_of e.before) (parts_of (e.chunk ∷ e.after)) in
    let same = ahead_same asked part candidates (parts_of chunks) c.same in
    let le = ahead_filtered asked part (is_candidate asked) parts in
    record { before = e.before; chunk = e.chunk; after = e.after; split = e.split; there = e.there; few = omega (arith, within, known, more, same, le) }
  where
    stands : is_candidate asked part ≡ true → Contains (parts_of chunks) part
    stands e = Contains-permutation (filter (is_candidate asked) parts) (parts_of chunks) part c.same (contains_filter (is_candidate asked) parts part is_there e)
