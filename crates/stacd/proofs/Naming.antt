-- A set of names beside the items that it was filled from.
use Rattle.std.proofs.Common.{◌≡◌, ℕ, ◌<◌, Bool, true, false, cond, not, ◌&&◌, ◌||◌, List, [], ◌∷◌, ◌++◌, length, get_or, refl, sym, ◌∙◌, ap, subst, nat_eq}
use Rattle.std.specs.Cmp.Lexicographic.{pointwise, same_text, nat_list_eq_equiv}
use Rattle.std.specs.Bool.{MatchBool}
use Rattle.std.specs.List.{list_any}
use Rattle.std.proofs.lemmas.List.Folds.{list_any-append, list_any_at, Any-from_list_any}
use Rattle.std.proofs.lemmas.List.Quantifiers.{all_pairs_push}
use Rattle.sc_item.specs.Feature.{Feature}
use Rattle.sc_item.specs.Names.{HaveOneName, AreApart}
use Rattle.sc_item.proofs.Apart.{apart_from_last}
use Rattle.stacd.specs.Names.{is_name, has_name, AreNamesOf}
use Rattle.stacd.specs.declared.names.Name.{Name}
use Rattle.stacd.specs.declared.names.Names.{Names}

both : (a b : Bool) → (a && b) ≡ true → (a ≡ true) × (b ≡ true)
both true b e = (refl, e)
both false b e = (e, cc)

-- an item that has the name of another, and one that hasn't
one_name : (k : Name) (x y : Feature) → k.collection ≡ x.collection → k.id ≡ x.id → has_name k y ≡ true → HaveOneName y x
one_name k x y c i h =
    let b = both (pointwise nat_eq y.collection k.collection) (pointwise nat_eq y.id k.id) h in
    (same_text _ _ (sym b.0) ∙ c, same_text _ _ (sym b.1) ∙ i)

told_one : (k : Name) (x y : Feature) → k.collection ≡ x.collection → k.id ≡ x.id → HaveOneName y x → has_name k y ≡ true
told_one k x y c i h =
    let a : y.collection ≡ k.collection = h.0 ∙ sym c in
    let b : y.id ≡ k.id = h.1 ∙ sym i in
    rw (a, b, nat_list_eq_equiv.refl k.collection, nat_list_eq_equiv.refl k.id)

-- the last of the items has the name
one_more : (front : List Feature) (x : Feature) (k q : Name) → k.collection ≡ x.collection → k.id ≡ x.id → cond (is_name k q) true (list_any (has_name q) front) ≡ list_any (has_name q) (front ++ x ∷ [])
one_more front x k q c i =
    sym (list_any-append (has_name q) front (x ∷ []) ∙ by (list_any (has_name q) front) (is_name k q) (has_name q x) (rw (c, i)))
  where
    by : (l a b : Bool) → a ≡ b → (l || (b || false)) ≡ cond a true l
    by l a b e = subst (λ t. (l || (t || false)) ≡ cond a true l) e (cases l a)
      where
        cases : (l a : Bool) → (l || (a || false)) ≡ cond a true l
        cases true true = refl
        cases true false = refl
        cases false true = refl
        cases false false = refl

module _ (names : Names) (items : List Feature) (x : Feature) (k : Name) (s : AreNamesOf names items) (c : k.collection ≡ x.collection) (d : k.id ≡ x.id) where
  -- a new name goes into the set
  pub names_more : (names' : Names) → list_any (is_name k) names.names.keys ≡ false → ((q : Name) → list_any (is_name q) names'.names.keys ≡ cond (is_name k q) true (list_any (is_name q) names.names.keys)) → AreNamesOf names' (items ++ x ∷ [])
  names_more names' new u = record {
    same = λ q. u q ∙ ap (cond (is_name k q) true) (s.same q) ∙ one_more items x k q c d;
    apart = all_pairs_push (λ a b. ¬ HaveOneName a b) items x s.apart (λ m e l h.
        let found = list_any_at (has_name k) items m e l (told_one k x (get_or items m e) c d h) in
        let none : list_any (has_name k) items ≡ false = sym (s.same k) ∙ new in
        cc);
  }

  -- a name that is in the set is a repeat
  pub is_repeated : list_any (is_name k) names.names.keys ≡ true → AreApart (items ++ x ∷ []) → ⊥
  is_repeated there apart = again (Any-from_list_any (has_name k) items (sym (s.same k) ∙ there))
    where
      again : (m : ℕ) × (y : Feature) × (m < length items) × (get_or items m y ≡ y) × (has_name k y ≡ true) → ⊥
      again (m, y, l, e, h) = apart_from_last items x apart m y l (subst (λ t. HaveOneName t x) (sym e) (one_name k x y c d h))

-- what `insert` answered says whether the name was there
pub told : (new there : Bool) (A B : Type 0) → new ≡ not there → (there ≡ false → A) → (there ≡ true → B) → MatchBool new A B
told new true A B e f g = subst (λ b. MatchBool b A B) (sym e) (g refl)
told new false A B e f g = subst (λ b. MatchBool b A B) (sym e) (f refl)
