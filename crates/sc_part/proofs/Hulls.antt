-- Hulls of one reach more, of two lists together, and of a list in another order.
use Rattle.std.proofs.Common.{◌≡◌, ℕ, ◌+◌, ◌<◌, not, List, [], ◌∷◌, ◌++◌, length, get_or, take, map, filter, refl, sym, ap, ◌∙◌, subst, arith, IsPermutation}
use Rattle.std.specs.declared.alloc.Global.{Global}
use Rattle.std.specs.declared.sync.Arc.{Arc}
use Rattle.std.specs.Arc.{arc_value}
use Rattle.std.specs.List.{All}
use Rattle.std.proofs.lemmas.List.{map-append}
use Rattle.std.proofs.lemmas.List.Elements.{All-nil, All-cons, All-head, All-tail, All-append, All-filter, All-push, All-weaker}
use Rattle.std.proofs.lemmas.List.Sorted.{All-permutation, IsPermutation-sym, IsPermutation-map}
use Rattle.std.proofs.lemmas.List.Sums.{fold-append}
use Rattle.sqlite_keyed.proofs.ListLemmas.{map-map}
use Rattle.sc_item.specs.Feature.{Feature}
use Rattle.sc_bounds.specs.declared.reach.Reach.{Reach}
use Rattle.sc_bounds.specs.Extent.{Extent, empty}
use Rattle.sc_bounds.specs.Sets.{Covers, IsWithin, IsHull, IsJoin, IsWidened, hull, join_of, only}
use Rattle.sc_part.specs.Scan.{after, is_among, reach, shared}
use Rattle.sc_part.proofs.Merging.{taken_of}

covers_within : (a b : Extent) (r : Reach) → IsWithin a b → Covers a r → Covers b r
covers_within a b r w x = record { start = w.starts r.start x.start; end = w.ends r.end x.end; place = λ p h. w.place p (x.place p h) }

split_all : {X : Type 0} (P : X → Type 0) (xs ys : List X) → All P (xs ++ ys) → All P xs × All P ys
split_all P [] ys all = (All-nil P, all)
split_all P (x ∷ xs) ys all = let rest = split_all P xs ys (All-tail P x (xs ++ ys) all) in (All-cons P x xs (All-head P x (xs ++ ys) all) rest.0, rest.1)

pub hull_nothing : IsHull empty []
hull_nothing = record { covers = All-nil (Covers empty); least = λ b all. record { starts = λ at h. absurd h; ends = λ at h. absurd h; place = λ p h. absurd h } }

pub hull_push : (h w : Extent) (rs : List Reach) (r : Reach) → IsHull h rs → IsWidened w h r → IsHull w (rs ++ r ∷ [])
hull_push h w rs r is wide = record {
  covers = All-push (Covers w) rs r (All-weaker (Covers h) (Covers w) (λ x. covers_within h w x wide.holds) rs is.covers) wide.covers;
  least = λ b all. let parts = split_all (Covers b) rs (r ∷ []) all in wide.least b (is.least b parts.0) (All-head (Covers b) r [] parts.1);
}

pub hull_join : (a b j : Extent) (xs ys : List Reach) → IsHull a xs → IsHull b ys → IsJoin j a b → IsHull j (ys ++ xs)
hull_join a b j xs ys p q is = record {
  covers = All-append (Covers j) ys xs (All-weaker (Covers b) (Covers j) (λ x. covers_within b j x is.right) ys q.covers) (All-weaker (Covers a) (Covers j) (λ x. covers_within a j x is.left) xs p.covers);
  least = λ other all. let parts = split_all (Covers other) ys xs all in is.least other (p.least other parts.1) (q.least other parts.0);
}

pub hull_permutation : (h : Extent) (xs ys : List Reach) → IsPermutation xs ys → IsHull h xs → IsHull h ys
hull_permutation h xs ys same is = record {
  covers = All-permutation (Covers h) xs ys same is.covers;
  least = λ b all. is.least b (All-permutation (Covers b) ys xs (IsPermutation-sym xs ys same) all);
}

pub value_push : (b w : Extent) (rs : List Reach) (r : Reach) → b ≡ hull rs → w ≡ join_of b (only r) → w ≡ hull (rs ++ r ∷ [])
value_push b w rs r e f = f ∙ ap (λ t. join_of t (only r)) e ∙ sym (fold-append (λ x y. join_of x (only y)) empty rs (r ∷ []))

-- the reaches of the first shared items
pub reaches_more : (items : List (Arc Feature Global)) (i : ℕ) (a : Arc Feature Global) → i < length items → a ≡ get_or items i a → take (i + 1) (map reach (shared items)) ≡ take i (map reach (shared items)) ++ reach (arc_value a) ∷ []
reaches_more items i a lt is = rw (map-map reach arc_value items) (taken_of (λ x. reach (arc_value x)) items i a lt is)

-- the first shared items, one more
pub each_more : (P : Feature → Type 0) (items : List (Arc Feature Global)) (i : ℕ) (a : Arc Feature Global) → i < length items → a ≡ get_or items i a → All P (take i (shared items)) → P (arc_value a) → All P (take (i + 1) (shared items))
each_more P items i a lt is all own = subst (All P) (sym (taken_of arc_value items i a lt is)) (All-push P (take i (shared items)) (arc_value a) all own)

-- what holds of all that were there and of all that come holds of all that are left
pub each_joined : (P : Feature → Type 0) (gone : List (List ℕ)) (come old items : List Feature) → All P old → All P come → IsPermutation (after gone come old) items → All P items
each_joined P gone come old items was comes same = All-permutation P (after gone come old) items same (All-append P come _ comes (All-filter (λ i. not (is_among gone i.id)) P old was))

-- where no id is gone all items stay
pub all_stay : (gone : List (List ℕ)) (items : List Feature) → length gone ≡ 0 → filter (λ i. not (is_among gone i.id)) items ≡ items
all_stay [] [] none = refl
all_stay [] (x ∷ items) none = ap (λ l. x ∷ l) (all_stay [] items none)
all_stay (g ∷ gone) items none = absurd (omega (arith, none))

pub joined : (gone : List (List ℕ)) (come old items : List Feature) (a b j : Extent) → length gone ≡ 0 → IsHull a (map reach old) → IsHull b (map reach come) → IsJoin j a b → IsPermutation (after gone come old) items → IsHull j (map reach items)
joined gone come old items a b j none p q is same =
    hull_permutation j (map reach come ++ map reach old) (map reach items)
    (subst (λ l. IsPermutation l (map reach items)) (ap (λ l. map reach (come ++ l)) (all_stay gone old none) ∙ map-append reach come old) (IsPermutation-map reach (after gone come old) items same))
    (hull_join a b j (map reach old) (map reach come) p q is)
