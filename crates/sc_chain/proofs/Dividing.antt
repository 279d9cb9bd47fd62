-- A list that is sorted by where its elements end, divided into runs of elements that belong together.
use Rattle.std.proofs.Common.{◌≡◌, Bool, true, false, cond, ◌||◌, List, [], ◌∷◌, ◌++◌, flat_map, refl, sym, ap, subst, arith}
use Rattle.std.specs.List.{AllByRecursion, Contains, list_any}
use Rattle.std.proofs.lemmas.List.Elements.{All-contains, All-from_recursion, Contains-append_left, Contains-append_right}
use Rattle.sqlite_trees.specs.Tree.{IsAscending}
use Rattle.sqlite_keyed.proofs.ListLemmas.{all_weaker, none_from_any}

abbrev pub flat : {X : Type 0} → List (List X) → List X
flat xss = flat_map (λ xs. xs) xss

pub all_front : {X : Type 0} (P : X → Type 0) (xs ys : List X) → AllByRecursion P (xs ++ ys) → AllByRecursion P xs
all_front P [] ys all = tt
all_front P (x ∷ xs) ys all = (all.0, all_front P xs ys all.1)

-- the test tells of an element whether it belongs to one that ends no later
module _ {X : Type 0} (test : X → X → Bool) (Ends Before Linked : X → X → Type 0)
    (itself : (p : X) → Linked p p)
    (trans : (p q r : X) → Linked p q → Linked q r → Linked p r)
    (hit : (p q : X) → Ends p q → test p q ≡ true → Linked p q × Linked q p)
    (miss : (p q : X) → test p q ≡ false → Before p q)
    (sooner : (p q r : X) → Ends p q → Before q r → Before p r) where
  -- the element in front: it belongs to the first run, or is one of its own
  abbrev join : X → List (List X) → List (List X)
  join p [] = (p ∷ []) ∷ []
  join p (run ∷ runs) = cond (list_any (test p) run) ((p ∷ run) ∷ runs) ((p ∷ []) ∷ run ∷ runs)

  abbrev pub runs_of : List X → List (List X)
  runs_of [] = []
  runs_of (x ∷ xs) = join x (runs_of xs)

  abbrev pub IsWhole : List X → Type 0
  IsWhole run = AllByRecursion (λ p. AllByRecursion (Linked p) run) run

  abbrev pub AllBefore : List X → List X → Type 0
  AllBefore a b = AllByRecursion (λ p. AllByRecursion (Before p) b) a

  pub record HasSome (run : List X) : Type 0 where
    pub one : X
    pub others : List X
    pub is : run ≡ one ∷ others

  pub record AreRuns (xs : List X) (runs : List (List X)) : Type 0 where
    pub same : flat runs ≡ xs
    pub some : AllByRecursion HasSome runs
    pub whole : AllByRecursion IsWhole runs
    pub ordered : IsAscending AllBefore runs

  record Hit (p : X) (run : List X) : Type 0 where
    pub one : X
    pub there : Contains run one
    pub to : Linked p one
    pub from : Linked one p

  found : (p : X) (run : List X) → AllByRecursion (Ends p) run → list_any (test p) run ≡ true → Hit p run
  found p [] ends e = cc
  found p (x ∷ run) ends e = go (test p x) refl (found p run ends.1) e
    where
      go : (b : Bool) → test p x ≡ b → (list_any (test p) run ≡ true → Hit p run) → (b || list_any (test p) run) ≡ true → Hit p (x ∷ run)
      go true t more e = let l = hit p x ends.0 t in record { one = x; there = Contains-append_left (x ∷ []) run x (0, omega arith, refl); to = l.0; from = l.1 }
      go false t more e = let h = more e in record { one = h.one; there = Contains-append_right (x ∷ []) run h.one h.there; to = h.to; from = h.from }

  -- with an element that belongs to one of them a run is whole
  with_one : (p : X) (run : List X) → IsWhole run → Hit p run → IsWhole (p ∷ run)
  with_one p run whole h =
      let P : X → Type 0 = λ q. AllByRecursion (Linked q) run in
      let row : AllByRecursion (Linked h.one) run = All-contains P run h.one (All-from_recursion P run whole) h.there in
      ((itself p, all_weaker (Linked h.one) (Linked p) (λ r l. trans p h.one r h.to l) run row), all_weaker P (λ q. AllByRecursion (Linked q) (p ∷ run)) (λ q all. (trans q h.one p (All-contains (Linked q) run h.one (All-from_recursion (Linked q) run all) h.there) h.from, all)) run whole)

  before_later : (p : X) (run : List X) (runs : List (List X)) → AllByRecursion (Ends p) run → HasSome run → AllByRecursion (AllBefore run) runs → AllByRecursion (AllByRecursion (Before p)) runs
  before_later p run runs ends some before =
      all_weaker (AllBefore run) (AllByRecursion (Before p)) each runs before
    where
      first : (run : List X) → run ≡ some.one ∷ some.others → AllByRecursion (Ends p) run → Ends p some.one
      first run e ends = (subst (AllByRecursion (Ends p)) e ends).0

      each : (later : List X) → AllBefore run later → AllByRecursion (Before p) later
      each later all =
          let one : AllByRecursion (Before some.one) later = (subst (λ r. AllBefore r later) some.is all).0 in
          all_weaker (Before some.one) (Before p) (λ r b. sooner p some.one r (first run some.is ends) b) later one

  joined : (p : X) (xs : List X) (runs : List (List X)) → AllByRecursion (Ends p) xs → AreRuns xs runs → AreRuns (p ∷ xs) (join p runs)
  joined p xs [] ends r = record { same = ap (λ l. p ∷ l) r.same; some = (record { one = p; others = []; is = refl }, tt); whole = (((itself p, tt), tt), tt); ordered = (tt, tt) }
  joined p xs (run ∷ runs) ends r = go (list_any (test p) run) refl
    where
      ends_run : AllByRecursion (Ends p) run
      ends_run = all_front (Ends p) run (flat runs) (subst (AllByRecursion (Ends p)) (sym r.same) ends)

      later : AllByRecursion (AllByRecursion (Before p)) runs
      later = before_later p run runs ends_run r.some.0 r.ordered.0

      both : (rs : List (List X)) → AllByRecursion (AllByRecursion (Before p)) rs → AllByRecursion (AllBefore run) rs → AllByRecursion (AllBefore (p ∷ run)) rs
      both [] a b = tt
      both (x ∷ rs) a b = ((a.0, b.0), both rs a.1 b.1)

      go : (b : Bool) → list_any (test p) run ≡ b → AreRuns (p ∷ xs) (cond b ((p ∷ run) ∷ runs) ((p ∷ []) ∷ run ∷ runs))
      go true e = record {
        same = ap (λ l. p ∷ l) r.same;
        some = (record { one = p; others = run; is = refl }, r.some.1);
        whole = (with_one p run r.whole.0 (found p run ends_run e), r.whole.1);
        ordered = (both runs later r.ordered.0, r.ordered.1);
      }
      go false e = record {
        same = ap (λ l. p ∷ l) r.same;
        some = (record { one = p; others = []; is = refl }, r.some);
        whole = (((itself p, tt), tt), r.whole);
        ordered = (
          ((all_weaker (λ q. test p q ≡ false) (Before p) (miss p) run (none_from_any (test p) run e), tt), all_weaker (AllByRecursion (Before p)) (AllBefore (p ∷ [])) (λ l b. (b, tt)) runs later),
          r.ordered,
        );
      }

  pub are_runs : (xs : List X) → IsAscending Ends xs → AreRuns xs (runs_of xs)
  are_runs [] up = record { same = refl; some = tt; whole = tt; ordered = tt }
  are_runs (x ∷ xs) up = joined x xs (runs_of xs) up.0 (are_runs xs up.1)
