-- One pass over two sorted lists, one element after another.
use Rattle.std.proofs.Common.{◌≡◌, ℕ, zero, suc, ◌+◌, ◌<◌, ◌≤◌, Bool, true, false, cond, List, [], ◌∷◌, ◌++◌, ◌⊎◌, ⊎_elim, inl, inr, length, get_or, take, drop, map, refl, sym, ap, ◌∙◌, subst, append_assoc, arith, is_gt, length-append}
use native.Mathlib.Numerals.{unary_clauses}
use Rattle.std.proofs.lemmas.Bool.{cases_lt}
use Rattle.std.proofs.lemmas.Cmp.{tied_itself}
use Rattle.std.proofs.lemmas.List.{append-nil, get_or-map}
use Rattle.std.specs.declared.alloc.Global.{Global}
use Rattle.std.specs.declared.sync.Arc.{Arc}
use Rattle.std.specs.Arc.{arc_value}
use Rattle.sqlite_keyed.specs.Lists.{sort_by}
use Rattle.sc_item.specs.Feature.{Feature}
use Rattle.sc_part.specs.Entry.{id_at, ids_of}
use Rattle.sc_part.specs.Index.{Extends}
use Rattle.sc_part.specs.Merged.{AreAbove, AreFrom, AreMoved, IsUp, staying}
use Rattle.sc_part.specs.Scan.{scan_order}
use Rattle.sc_part.proofs.Sorting.{first_stays, sort_by-sorted}
use Rattle.sc_part.proofs.Scanning.{scan_total}

-- the element at a place, seen through a function
pub head_of : {A B : Type 0} (f : A → B) (xs : List A) (i : ℕ) (a : A) → i < length xs → a ≡ get_or xs i a → drop i (map f xs) ≡ f a ∷ drop (i + 1) (map f xs)
head_of f [] i a lt is = absurd (omega arith)
head_of f (x ∷ xs) zero a lt is = ap (λ y. f y ∷ map f xs) (sym is)
head_of f (x ∷ xs) (suc i) a lt is = simp unary_clauses (simp unary_clauses at (head_of f xs i a (omega arith) is))

pub taken_of : {A B : Type 0} (f : A → B) (xs : List A) (i : ℕ) (a : A) → i < length xs → a ≡ get_or xs i a → take (i + 1) (map f xs) ≡ take i (map f xs) ++ f a ∷ []
taken_of f [] i a lt is = absurd (omega arith)
taken_of f (x ∷ xs) zero a lt is = ap (λ y. f y ∷ []) (sym is)
taken_of f (x ∷ xs) (suc i) a lt is = simp unary_clauses (ap (λ l. f x ∷ l) (simp unary_clauses at (taken_of f xs i a (omega arith) is)))

pub mark_head : (xs : List Bool) (i : ℕ) (d : Bool) → i < length xs → drop i xs ≡ get_or xs i d ∷ drop (i + 1) xs
mark_head [] i d lt = absurd (omega arith)
mark_head (x ∷ xs) zero d lt = refl
mark_head (x ∷ xs) (suc i) d lt = simp unary_clauses (simp unary_clauses at (mark_head xs i d (omega arith)))

pub up-drop : (i : ℕ) (items : List Feature) → IsUp items → IsUp (drop i items)
up-drop zero items up = up
up-drop (suc i) [] up = tt
up-drop (suc i) (x ∷ items) up = up-drop i items up.1

from-staying : (o : Feature) (marks : List Bool) (items : List Feature) → AreFrom o items → AreFrom o (staying marks items)
from-staying o [] items all = tt
from-staying o (m ∷ marks) [] all = tt
from-staying o (m ∷ marks) (x ∷ items) all =
    elim m as (λ b. AreFrom o (cond b (staying marks items) (x ∷ staying marks items))) [ true ↦ from-staying o marks items all.1 | false ↦ (all.0, from-staying o marks items all.1) ]

-- an item and those behind it, of which some go
pub from_here : (o : Feature) (marks : List Bool) (rest : List Feature) → AreFrom o rest → AreFrom o (staying marks (o ∷ rest))
from_here o marks rest all = from-staying o marks (o ∷ rest) (ap is_gt (tied_itself scan_total o), all)

-- the item goes on behind those that come before it, or goes
pub next : (m : Bool) (marks : List Bool) (whole before before1 come come1 rest : List Feature) (o : Feature)
    → before ++ sort_by scan_order (come ++ staying (m ∷ marks) (o ∷ rest)) ≡ whole
    → before1 ++ sort_by scan_order (come1 ++ staying (m ∷ marks) (o ∷ rest)) ≡ before ++ sort_by scan_order (come ++ staying (m ∷ marks) (o ∷ rest))
    → AreAbove o come1 → AreFrom o rest
    → (before1 ++ cond m [] (o ∷ [])) ++ sort_by scan_order (come1 ++ staying marks rest) ≡ whole
next true marks whole before before1 come come1 rest o inv moved far up = ap (λ l. l ++ sort_by scan_order (come1 ++ staying marks rest)) (append-nil before1) ∙ moved ∙ inv
next false marks whole before before1 come come1 rest o inv moved far up =
    append_assoc before1 (o ∷ []) (sort_by scan_order (come1 ++ staying marks rest))
    ∙ ap (λ l. before1 ++ l) (sym (first_stays scan_order scan_total o come1 (staying marks rest) far (from-staying o marks rest up))) ∙ moved ∙ inv

staying_nothing : (marks : List Bool) → staying {X = Feature} marks [] ≡ []
staying_nothing [] = refl
staying_nothing (m ∷ marks) = refl

pub drop_all : {A B : Type 0} (f : A → B) (xs : List A) (i : ℕ) → length xs ≤ i → drop i (map f xs) ≡ []
drop_all f [] zero le = refl
drop_all f [] (suc i) le = refl
drop_all f (x ∷ xs) zero le = absurd (omega arith)
drop_all f (x ∷ xs) (suc i) le = drop_all f xs i (omega arith)

-- nothing but what comes is left
pub ends : (marks : List Bool) (whole before come rest : List Feature) → rest ≡ [] → IsUp come → before ++ sort_by scan_order (come ++ staying marks rest) ≡ whole → before ++ come ≡ whole
ends marks whole before come rest none up inv =
    let left : come ++ staying marks rest ≡ come = rw (none, staying_nothing marks) (append-nil come) in
    ap (λ l. before ++ l) (sym (ap (sort_by scan_order) left ∙ sort_by-sorted scan_order scan_total come up)) ∙ inv

-- the places that were told hold in a longer list
pub moved_more : (old new longer : List (List ℕ)) (marks : List Bool) (places : List ℕ) (upto : ℕ) → Extends new longer → AreMoved old new marks places upto → AreMoved old longer marks places upto
moved_more old new longer marks places upto x m = record {
  count = m.count;
  within = λ p lt stays. let w = m.within p lt stays in let l = x.longer in omega (arith, w, l);
  same = λ p lt stays. x.same _ (m.within p lt stays) ∙ m.same p lt stays;
}

before_end : (xs : List ℕ) (y : ℕ) (p : ℕ) → p < length xs → get_or (xs ++ y ∷ []) p 0 ≡ get_or xs p 0
before_end [] y p lt = absurd (omega arith)
before_end (x ∷ xs) y zero lt = refl
before_end (x ∷ xs) y (suc p) lt = before_end xs y p (omega arith)

at_end : (xs : List ℕ) (y : ℕ) → get_or (xs ++ y ∷ []) (length xs) 0 ≡ y
at_end [] y = refl
at_end (x ∷ xs) y = at_end xs y

id_at_end : (xs : List (List ℕ)) (y : List ℕ) → id_at (xs ++ y ∷ []) (length xs) ≡ y
id_at_end [] y = refl
id_at_end (x ∷ xs) y = id_at_end xs y

-- one place more
pub moved_push : (old new new1 : List (List ℕ)) (marks : List Bool) (places : List ℕ) (upto : ℕ) (id : List ℕ) (m : Bool)
    → m ≡ get_or marks upto false → id ≡ id_at old upto → new1 ≡ new ++ cond m [] (id ∷ []) → Extends new new1 → AreMoved old new marks places upto → AreMoved old new1 marks (places ++ length new ∷ []) (upto + 1)
moved_push old new new1 marks places upto id m mark is grown x moved = record {
  count = omega (arith, moved.count, length-append places (length new ∷ []));
  within = λ p lt stays. within p stays (last p lt);
  same = λ p lt stays. same p stays (last p lt);
}
  where
    last : (p : ℕ) → p < upto + 1 → (p < upto) ⊎ (p ≡ upto)
    last p lt = ⊎_elim (λ l. inl l) (λ l. inr (omega arith)) (cases_lt p upto)

    place_before : (p : ℕ) → p < upto → get_or (places ++ length new ∷ []) p 0 ≡ get_or places p 0
    place_before p lt = before_end places (length new) p (omega (arith, moved.count))

    place_here : (p : ℕ) → p ≡ upto → get_or (places ++ length new ∷ []) p 0 ≡ length new
    place_here p e = subst (λ t. get_or (places ++ length new ∷ []) t 0 ≡ length new) (moved.count ∙ sym e) (at_end places (length new))

    here : (p : ℕ) → p ≡ upto → get_or marks p false ≡ false → new1 ≡ new ++ id ∷ []
    here p e stays = grown ∙ ap (λ b. new ++ cond b [] (id ∷ [])) (mark ∙ ap (λ t. get_or marks t false) (sym e) ∙ stays)

    within : (p : ℕ) → get_or marks p false ≡ false → (p < upto) ⊎ (p ≡ upto) → get_or (places ++ length new ∷ []) p 0 < length new1
    within p stays (inl l) =
        let e = place_before p l in
        let w = moved.within p l stays in
        let longer = x.longer in
        omega (arith, e, w, longer)
    within p stays (inr e) =
        let at = place_here p e in
        let size : length new1 ≡ length new + 1 = ap length (here p e stays) ∙ length-append new (id ∷ []) in
        omega (arith, at, size)

    same : (p : ℕ) → get_or marks p false ≡ false → (p < upto) ⊎ (p ≡ upto) → id_at new1 (get_or (places ++ length new ∷ []) p 0) ≡ id_at old p
    same p stays (inl l) = ap (id_at new1) (place_before p l) ∙ x.same _ (moved.within p l stays) ∙ moved.same p l stays
    same p stays (inr e) = ap (id_at new1) (place_here p e) ∙ ap (λ l. id_at l (length new)) (here p e stays) ∙ id_at_end new id ∙ is ∙ ap (id_at old) (sym e)

-- the id at a place
pub id_here : (items : List (Arc Feature Global)) (i : ℕ) (a : Arc Feature Global) → i < length items → a ≡ get_or items i a → (arc_value a).id ≡ id_at (ids_of items) i
id_here items i a lt is = sym (get_or-map (λ (x : Arc Feature Global). (arc_value x).id) items i a [] lt ∙ ap (λ (x : Arc Feature Global). (arc_value x).id) (sym is))
