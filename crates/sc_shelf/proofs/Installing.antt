-- Lists of parts after an install, and without a collection.
use Rattle.std.proofs.Common.{◌≡◌, ℕ, Bool, true, false, cond, not, List, [], ◌∷◌, ◌++◌, filter, Option, Some, None, refl, sym, ap, ◌∙◌, subst, append_assoc, bytes_eq}
use Rattle.std.specs.Prelude.{IfSome}
use Rattle.std.specs.List.{All, AllByRecursion}
use Rattle.std.specs.Option.{option_map, option_to_list}
use Rattle.std.proofs.lemmas.List.Elements.{All-filter, recursion_from_All}
use Rattle.sqlite_trees.specs.Tree.{IsAscending}
use Rattle.sqlite_keyed.proofs.ListLemmas.{ascending-filter}
use Rattle.sc_cut.specs.declared.name.PartName.{PartName}
use Rattle.sc_bounds.specs.Extent.{Extent}
use Rattle.sc_history.specs.Names.{is_name}
use Rattle.sc_history.specs.Part.{Part, lookup, AreInOrder}
use Rattle.sc_history.specs.Installs.{AreInstalled, bounds_after, installed}
use Rattle.sc_history.proofs.Lists.{ascending_from_pairs, pairs_from_ascending}
use Rattle.sc_history.proofs.Names.{same_name}
use Rattle.sc_shelf.specs.Changed.{AreWithout}
use Rattle.sc_shelf.specs.Kept.{AreParts, HasItsOwn}
use Rattle.sc_shelf.specs.Split.{IsSplit}
use Rattle.sc_shelf.proofs.Between.{IsAbove, IsBelow, IsNamed, Rises, ascending_split, found_between, found_other, rise_after, rise_between}
use Rattle.sc_shelf.proofs.Owning.{IsOwn, found_own, parts_own, some_weaker}
use Rattle.sc_shelf.proofs.Touching.{same_part}

-- ---- installs

installed_named : (name : PartName) (stamp : ℕ) (hull : Extent) (part : Option Part) → IsNamed name part → IsNamed name (option_map (installed stamp hull) part)
installed_named name stamp hull None named = tt
installed_named name stamp hull (Some part) named = named

pub are_installed : (name : PartName) (stamp : ℕ) (hull : Extent) (old before : List Part) (here : Option Part) (after : List Part) → AreInOrder old → IsSplit name old before here after
    → AreInstalled name stamp hull old ((before ++ option_to_list (option_map (installed stamp hull) here)) ++ after)
are_installed name stamp hull old before here after rise split = record { rise = pairs_from_ascending Rises _ up; each = λ other. each other (is_name name other) refl }
  where
    new : List Part
    new = (before ++ option_to_list (option_map (installed stamp hull) here)) ++ after

    whole : (before ++ option_to_list (option_map (installed stamp hull) here)) ++ after ≡ before ++ (option_to_list (option_map (installed stamp hull) here) ++ after)
    whole = append_assoc before (option_to_list (option_map (installed stamp hull) here)) after

    below : AllByRecursion (IsBelow name) before
    below = recursion_from_All (IsBelow name) before split.below

    above : AllByRecursion (IsAbove name) after
    above = recursion_from_All (IsAbove name) after split.above

    named : IsNamed name (option_map (installed stamp hull) here)
    named = installed_named name stamp hull here split.named

    parts : IsAscending Rises before × IsAscending Rises (option_to_list here ++ after)
    parts = ascending_split Rises before (option_to_list here ++ after) (subst (IsAscending Rises) split.whole (ascending_from_pairs Rises old rise))

    up : IsAscending Rises ((before ++ option_to_list (option_map (installed stamp hull) here)) ++ after)
    up = subst (IsAscending Rises) (sym whole) (rise_between name before (option_map (installed stamp hull) here) after below named above parts.0 (rise_after here after parts.1))

    at_name : lookup name ((before ++ option_to_list (option_map (installed stamp hull) here)) ++ after) ≡ option_map (installed stamp hull) (lookup name old)
    at_name =
        ap (lookup name) whole ∙ found_between name before (option_map (installed stamp hull) here) after below named above
        ∙ ap (option_map (installed stamp hull)) (sym (ap (lookup name) split.whole ∙ found_between name before here after below split.named above))

    each : (other : PartName) (t : Bool) → is_name name other ≡ t → lookup other ((before ++ option_to_list (option_map (installed stamp hull) here)) ++ after) ≡ cond (is_name name other) (option_map (installed stamp hull) (lookup name old)) (lookup other old)
    each other true e = rw e (subst (λ n. lookup n ((before ++ option_to_list (option_map (installed stamp hull) here)) ++ after) ≡ option_map (installed stamp hull) (lookup name old)) (same_name name other e) at_name)
    each other false e =
        rw e (ap (lookup other) whole ∙ found_other name other before (option_map (installed stamp hull) here) after named e
        ∙ sym (ap (lookup other) split.whole ∙ found_other name other before here after split.named e))

-- where the part with the name stays as it is, so do all
stays_installed : (name : PartName) (stamp : ℕ) (hull : Extent) (old : List Part) → AreInOrder old → option_map (installed stamp hull) (lookup name old) ≡ lookup name old → AreInstalled name stamp hull old old
stays_installed name stamp hull old rise same = record { rise = rise; each = λ other. each other (is_name name other) refl }
  where
    each : (other : PartName) (t : Bool) → is_name name other ≡ t → lookup other old ≡ cond (is_name name other) (option_map (installed stamp hull) (lookup name old)) (lookup other old)
    each other true e = rw e (subst (λ n. lookup n old ≡ option_map (installed stamp hull) (lookup name old)) (same_name name other e) (sym same))
    each other false e = rw e refl

-- no part with the name
pub none_installed : (name : PartName) (stamp : ℕ) (hull : Extent) (old : List Part) → AreInOrder old → lookup name old ≡ None → AreInstalled name stamp hull old old
none_installed name stamp hull old rise none = stays_installed name stamp hull old rise (rw none refl)

-- a part with the name that has those bounds already
pub same_installed : (name : PartName) (stamp : ℕ) (hull : Extent) (old : List Part) (part : Part) → AreInOrder old → lookup name old ≡ Some part → bounds_after stamp hull part ≡ part.bounds → AreInstalled name stamp hull old old
same_installed name stamp hull old part rise found same =
    stays_installed name stamp hull old rise (ap (option_map (installed stamp hull)) found ∙ ap Some (same_part (installed stamp hull part) part refl refl refl same refl refl) ∙ sym found)

installed_own : (name : PartName) (stamp : ℕ) (hull : Extent) (part : Option Part) → IfSome part (IsOwn name) → IfSome (option_map (installed stamp hull) part) HasItsOwn
installed_own name stamp hull None own = tt
installed_own name stamp hull (Some part) own = own.1

pub installed_parts_own : (name : PartName) (stamp : ℕ) (hull : Extent) (old new : List Part) → AreParts old → AreInstalled name stamp hull old new → AreParts new
installed_parts_own name stamp hull old new are is = parts_own new is.rise (λ other. subst (λ q. IfSome q HasItsOwn) (sym (is.each other)) (go other (is_name name other)))
  where
    go : (other : PartName) (t : Bool) → IfSome (cond t (option_map (installed stamp hull) (lookup name old)) (lookup other old)) HasItsOwn
    go other true = installed_own name stamp hull (lookup name old) (found_own old name are)
    go other false = some_weaker (IsOwn other) HasItsOwn (lookup other old) (λ p h. h.1) (found_own old other are)

-- ---- a collection goes

without_one : (collection : List ℕ) (name : PartName) (x : Part) (rest left : List Part) → lookup name left ≡ cond (bytes_eq name.collection collection) None (lookup name rest)
    → lookup name (cond (not (bytes_eq x.name.collection collection)) (x ∷ left) left) ≡ cond (bytes_eq name.collection collection) None (cond (is_name x.name name) (Some x) (lookup name rest))
without_one collection name x rest left more = go (is_name x.name name) refl (bytes_eq x.name.collection collection) refl
  where
    go : (t : Bool) → is_name x.name name ≡ t → (s : Bool) → bytes_eq x.name.collection collection ≡ s
        → lookup name (cond (not s) (x ∷ left) left) ≡ cond (bytes_eq name.collection collection) None (cond t (Some x) (lookup name rest))
    go true e true f =
        let same : bytes_eq name.collection collection ≡ true = subst (λ n. bytes_eq n.collection collection ≡ true) (same_name x.name name e) f in
        more ∙ rw same refl
    go true e false f =
        let same : bytes_eq name.collection collection ≡ false = subst (λ n. bytes_eq n.collection collection ≡ false) (same_name x.name name e) f in
        rw (e, same) refl
    go false e true f = more
    go false e false f = rw e more

found_without : (collection : List ℕ) (name : PartName) (parts : List Part) → lookup name (filter (λ p. not (bytes_eq p.name.collection collection)) parts) ≡ cond (bytes_eq name.collection collection) None (lookup name parts)
found_without collection name [] = go (bytes_eq name.collection collection)
  where
    go : (t : Bool) → None ≡ cond t None (lookup name [])
    go true = refl
    go false = refl
found_without collection name (x ∷ parts) = without_one collection name x parts (filter (λ p. not (bytes_eq p.name.collection collection)) parts) (found_without collection name parts)

pub are_without : (collection : List ℕ) (old new : List Part) → AreInOrder old → new ≡ filter (λ p. not (bytes_eq p.name.collection collection)) old → AreWithout collection old new
are_without collection old new rise is = record {
  rise = subst AreInOrder (sym is) (pairs_from_ascending Rises (filter (λ p. not (bytes_eq p.name.collection collection)) old) (ascending-filter Rises (λ p. not (bytes_eq p.name.collection collection)) old (ascending_from_pairs Rises old rise)));
  each = λ name. ap (lookup name) is ∙ found_without collection name old;
}

pub without_own : (collection : List ℕ) (old new : List Part) → AreParts old → new ≡ filter (λ p. not (bytes_eq p.name.collection collection)) old → AreParts new
without_own collection old new are is = record {
  rise = (are_without collection old new are.rise is).rise;
  own = subst (All HasItsOwn) (sym is) (All-filter (λ p. not (bytes_eq p.name.collection collection)) HasItsOwn old are.own);
}
