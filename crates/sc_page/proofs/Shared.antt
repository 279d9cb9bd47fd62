-- Shared items that are sorted, and one more of them.
use Rattle.std.proofs.Common.{◌≡◌, ◌<◌, ◌+◌, ℕ, List, [], ◌∷◌, ◌++◌, take, drop, length, map, get_or, sym, ap, ◌∙◌, subst, arith, Ordering, IsSorted, append_assoc, length-append}
use Rattle.std.specs.Arc.{arc_value}
use Rattle.std.specs.declared.alloc.Global.{Global}
use Rattle.std.specs.declared.sync.Arc.{Arc}
use Rattle.std.proofs.lemmas.List.{get_or-map, get_or_append_left, length-map, map-append, take_more, take-append-drop}
use Rattle.sc_item.specs.Feature.{Feature}
use Rattle.sc_item.specs.Names.{AreApart}
use Rattle.sc_page.specs.Search.{shared}

sorted_of_some : (order : Feature → Feature → Ordering) (xs : List (Arc Feature Global)) (x : Arc Feature Global) → IsSorted (λ a b. order (arc_value a) (arc_value b)) xs → IsSorted order (shared xs)
sorted_of_some order xs x s k d low l =
    let n = length-map xs arc_value in
    let a : get_or (shared xs) (k + 1) d ≡ arc_value (get_or xs (k + 1) x) = get_or-map arc_value xs (k + 1) x d (omega (arith, n)) in
    let b : get_or (shared xs) k d ≡ arc_value (get_or xs k x) = get_or-map arc_value xs k x d (omega (arith, n)) in
    rw (a, b) (s k x low (omega (arith, n)))

pub sorted_shared : (order : Feature → Feature → Ordering) (xs : List (Arc Feature Global)) → IsSorted (λ a b. order (arc_value a) (arc_value b)) xs → IsSorted order (shared xs)
sorted_shared order [] s = λ k d low l. absurd (omega arith)
sorted_shared order (x ∷ xs) s = sorted_of_some order (x ∷ xs) x s

pub shared_next : (items : List (Arc Feature Global)) (i : ℕ) (a : Arc Feature Global) → i < length items → a ≡ get_or items i a → shared (take (i + 1) items) ≡ shared (take i items) ++ arc_value a ∷ []
shared_next items i a lt here =
    ap (map arc_value) (take_more items i a lt ∙ ap (λ x. take i items ++ x ∷ []) (sym here)) ∙ map-append arc_value (take i items) (a ∷ [])

-- the first of items that are apart are apart
pub apart_front : (xs ys : List Feature) → AreApart (xs ++ ys) → AreApart xs
apart_front xs ys apart i j d l m =
    let n = length-append xs ys in
    let a = get_or_append_left xs ys d i (omega arith) in
    let b = get_or_append_left xs ys d j m in
    λ h. apart i j d l (omega (arith, n)) (rw (a, b) h)

-- so are those before and as far as these go
pub apart_next : (before : List Feature) (items : List (Arc Feature Global)) (i : ℕ) (a : Arc Feature Global) → i < length items → a ≡ get_or items i a → AreApart (before ++ shared items) → AreApart ((before ++ shared (take i items)) ++ arc_value a ∷ [])
apart_next before items i a lt here apart =
    let whole : shared items ≡ shared (take (i + 1) items) ++ shared (drop (i + 1) items) =
    ap shared (sym (take-append-drop (i + 1) items)) ∙ map-append arc_value (take (i + 1) items) (drop (i + 1) items) in
    let e : before ++ shared items ≡ ((before ++ shared (take i items)) ++ arc_value a ∷ []) ++ shared (drop (i + 1) items) =
    ap (λ t. before ++ t) (whole ∙ ap (λ t. t ++ shared (drop (i + 1) items)) (shared_next items i a lt here)) ∙
    sym (append_assoc before (shared (take i items) ++ arc_value a ∷ []) (shared (drop (i + 1) items))) ∙
    ap (λ t. t ++ shared (drop (i + 1) items)) (sym (append_assoc before (shared (take i items)) (arc_value a ∷ []))) in
    apart_front _ (shared (drop (i + 1) items)) (subst AreApart e apart)

-- and with the next they are as far as those go
pub found_next : (before : List Feature) (items : List (Arc Feature Global)) (i : ℕ) (a : Arc Feature Global) → i < length items → a ≡ get_or items i a → (before ++ shared (take i items)) ++ arc_value a ∷ [] ≡ before ++ shared (take (i + 1) items)
found_next before items i a lt here = append_assoc before (shared (take i items)) (arc_value a ∷ []) ∙ ap (λ t. before ++ t) (sym (shared_next items i a lt here))
