-- Items in two lists, of which the first makes a version and the second changes it.
use Rattle.std.proofs.Common.{◌≡◌, ℕ, zero, suc, ◌<◌, ◌≤◌, ◌-◌, List, [], ◌∷◌, ◌++◌, length, get_or, take, drop, map, filter, not, refl, sym, ap, ◌∙◌, subst, arith, IsPermutation, length-append, length-drop}
use Rattle.std.specs.List.{All}
use Rattle.std.specs.declared.alloc.Global.{Global}
use Rattle.std.specs.declared.sync.Arc.{Arc}
use Rattle.std.specs.Arc.{arc_value}
use Rattle.std.proofs.lemmas.List.{append-nil, drop-map, map-append, take-append-drop, take-map}
use Rattle.std.proofs.lemmas.List.Elements.{All-drop, All-take}
use Rattle.std.proofs.lemmas.List.Sorted.{IsPermutation-append_comm, IsPermutation-append_right, IsPermutation-trans}
use Rattle.sc_item.specs.Feature.{Feature}
use Rattle.sc_item.specs.Names.{AreApart}
use Rattle.sc_part.specs.Scan.{after, is_among, shared}

pub none_goes : (items : List Feature) → filter (λ i. not (is_among [] i.id)) items ≡ items
none_goes [] = refl
none_goes (x ∷ items) = ap (λ l. x ∷ l) (none_goes items)

front : (xs ys : List Feature) (k : ℕ) (d : Feature) → k < length xs → get_or (xs ++ ys) k d ≡ get_or xs k d
front [] ys k d lt = absurd (omega arith)
front (x ∷ xs) ys zero d lt = refl
front (x ∷ xs) ys (suc k) d lt = front xs ys k d (omega arith)

pub first_apart : (old come : List Feature) → AreApart (old ++ come) → AreApart (after [] old [])
first_apart old come apart = subst AreApart (sym (append-nil old)) (λ i j d l m h.
    let size = length-append old come in
    apart i j d l (omega (arith, m, size)) (subst2 (sym (front old come i d (omega arith))) (sym (front old come j d m)) h))
  where
    subst2 : {a b x y : Feature} → a ≡ x → b ≡ y → Rattle.sc_item.specs.Names.HaveOneName a b → Rattle.sc_item.specs.Names.HaveOneName x y
    subst2 e f g = (ap (λ t. t.collection) (sym e) ∙ g.0 ∙ ap (λ t. t.collection) f, ap (λ t. t.id) (sym e) ∙ g.1 ∙ ap (λ t. t.id) f)

pub then_apart : ((items other : List Feature) → IsPermutation items other → AreApart items → AreApart other) → (old come base : List Feature) → IsPermutation (after [] old []) base → AreApart (old ++ come) → AreApart (after [] come base)
then_apart law old come base same apart =
    subst (λ l. AreApart (come ++ l)) (sym (none_goes base))
    (law (old ++ come) (come ++ base) (IsPermutation-trans _ _ _ (IsPermutation-append_comm old come) (IsPermutation-append_right come old base (subst (λ l. IsPermutation l base) (append-nil old) same))) apart)

-- the front of a list and its rest
take_all : {X : Type 0} (k : ℕ) (xs : List X) → length xs ≤ k → take k xs ≡ xs
take_all k [] le = take_nothing k
  where
    take_nothing : {X : Type 0} (k : ℕ) → take {A = X} k [] ≡ []
    take_nothing zero = refl
    take_nothing (suc k) = refl
take_all zero (x ∷ xs) le = absurd (omega arith)
take_all (suc k) (x ∷ xs) le = ap (λ l. x ∷ l) (take_all k xs (omega arith))

rest_is : (n : ℕ) (all : List (Arc Feature Global)) → take (length all - n) (drop n all) ≡ drop n all
rest_is n all = take_all (length all - n) (drop n all) (omega (arith, length-drop n all))

pub parts_are : (n : ℕ) (all : List (Arc Feature Global)) → shared (take n all) ++ shared (take (length all - n) (drop n all)) ≡ shared all
parts_are n all =
    ap (λ l. shared (take n all) ++ shared l) (rest_is n all) ∙ sym (map-append arc_value (take n all) (drop n all)) ∙ ap shared (take-append-drop n all)

pub front_has : (P : Feature → Type 0) (n : ℕ) (all : List (Arc Feature Global)) → All P (shared all) → All P (shared (take n all))
front_has P n all h = subst (All P) (take-map arc_value n all) (All-take P n (shared all) h)

pub rest_has : (P : Feature → Type 0) (n : ℕ) (all : List (Arc Feature Global)) → All P (shared all) → All P (shared (take (length all - n) (drop n all)))
rest_has P n all h = subst (All P) (drop-map arc_value n all ∙ ap shared (sym (rest_is n all))) (All-drop P n (shared all) h)
