-- A list of parts while a load's changes are made in it: those that were made are in the new list, and the rest of the old one stands behind it.
use Rattle.std.proofs.Common.{◌≡◌, ℕ, Bool, true, false, cond, List, [], ◌∷◌, ◌++◌, Option, Some, None, refl, sym, ap, ◌∙◌, subst, Less, append_assoc}
use Rattle.std.specs.List.{AllByRecursion}
use Rattle.std.specs.Option.{option_to_list}
use Rattle.std.proofs.lemmas.List.Elements.{recursion_from_All}
use Rattle.sqlite_trees.specs.Tree.{IsAscending}
use Rattle.sqlite_keyed.proofs.ListLemmas.{all_weaker, all_both, all-append}
use Rattle.sc_item.specs.Feature.{Feature}
use Rattle.sc_cut.specs.declared.name.PartName.{PartName}
use Rattle.sc_history.specs.Changes.{is_among}
use Rattle.sc_history.specs.Names.{is_empty, is_name, name_order, scan_of}
use Rattle.sc_history.specs.Part.{Part, lookup, AreInOrder}
use Rattle.sc_history.specs.Touch.{made, renewed, stamped, touched, unless_empty, widened}
use Rattle.sc_history.proofs.Lists.{ascending_from_pairs, pairs_from_ascending}
use Rattle.sc_history.proofs.Names.{name_self, name_total, same_name}
use Rattle.sc_shelf.specs.declared.change.PartChange.{PartChange}
use Rattle.sc_shelf.specs.Changed.{AreChanged, AreChangesOf, IsChangeOf, change_of, changed, come_by}
use Rattle.sc_shelf.specs.Split.{IsSplit}
use Rattle.sc_shelf.proofs.Between.{IsAbove, IsBelow, IsNamed, Rises, ascending_split, found_between, found_other, name_turn, other_name, rise_after, rise_between}

-- ---- names of touched parts

unless_named : (name : PartName) (part : Part) → part.name ≡ name → IsNamed name (unless_empty part)
unless_named name part named = go (is_empty part.items)
  where
    go : (t : Bool) → IsNamed name (cond t None (Some part))
    go true = tt
    go false = named

widened_name : (revision : ℕ) (come : List Feature) (part : Part) → (widened revision come part).name ≡ part.name
widened_name revision [] part = refl
widened_name revision (item ∷ come) part = refl

pub touched_named : (revision : ℕ) (name : PartName) (taken : List ℕ → Bool) (come : List Feature) (part : Option Part) → IsNamed name part → IsNamed name (touched revision name taken come part)
unfolding touched
touched_named revision name taken come None named = unless_named name (made revision name come) refl
touched_named revision name taken come (Some part) named =
    unless_named name _ (widened_name revision come (stamped revision (scan_of (renewed taken come part.items)) part) ∙ named)

-- ---- changes

abbrev Follows : PartChange → PartChange → Type 0
Follows a b = name_order a.name b.name ≡ Less

-- the first of changes whose names rise is the only one of its name
pub only_one : (c : PartChange) (left : List PartChange) → AllByRecursion (Follows c) left → change_of c.name left ≡ None
only_one c [] all = refl
only_one c (d ∷ left) all = rw (name_turn d.name c.name ∙ other_name c.name d.name all.0) (only_one c left all.1)

-- ---- midway

pub record IsMidway (revision : ℕ) (changes left : List PartChange) (old new rest : List Part) : Type 0 where
  pub rise : IsAscending Rises (new ++ rest)
  pub below : AllByRecursion (λ c. AllByRecursion (IsBelow c.name) new) left
  pub apart : IsAscending Follows left
  pub ready : AllByRecursion (λ c. IsChangeOf (lookup c.name (new ++ rest)) c) left
  pub each : (name : PartName) → changed revision name (change_of name left) (lookup name (new ++ rest)) ≡ changed revision name (change_of name changes) (lookup name old)

pub midway_begin : (revision : ℕ) (changes : List PartChange) (old : List Part) → AreInOrder old → AreChangesOf old changes → IsMidway revision changes changes old [] old
midway_begin revision changes old rise are = record {
  rise = ascending_from_pairs Rises old rise;
  below = none changes;
  apart = ascending_from_pairs Follows changes are.rise;
  ready = recursion_from_All (λ c. IsChangeOf (lookup c.name old) c) changes are.each;
  each = λ name. refl;
}
  where
    none : (cs : List PartChange) → AllByRecursion (λ c. AllByRecursion (IsBelow c.name) []) cs
    none [] = tt
    none (c ∷ cs) = (tt, none cs)

pub midway_end : (revision : ℕ) (changes : List PartChange) (old new rest : List Part) → IsMidway revision changes [] old new rest → AreChanged revision changes old (new ++ rest)
midway_end revision changes old new rest is = record { rise = pairs_from_ascending Rises (new ++ rest) is.rise; each = is.each }

-- ---- one change more

module _ (revision : ℕ) (changes left : List PartChange) (c : PartChange) (old new rest before : List Part) (here : Option Part) (after : List Part)
    (is : IsMidway revision changes (c ∷ left) old new rest) (split : IsSplit c.name rest before here after) where
  whole : new ++ rest ≡ (new ++ before) ++ (option_to_list here ++ after)
  whole = ap (λ l. new ++ l) split.whole ∙ sym (append_assoc new before (option_to_list here ++ after))

  below_here : AllByRecursion (IsBelow c.name) (new ++ before)
  below_here = all-append (IsBelow c.name) new before is.below.0 (recursion_from_All (IsBelow c.name) before split.below)

  above_here : AllByRecursion (IsAbove c.name) after
  above_here = recursion_from_All (IsAbove c.name) after split.above

  found_here : lookup c.name (new ++ rest) ≡ here
  found_here = ap (lookup c.name) whole ∙ found_between c.name (new ++ before) here after below_here split.named above_here

  -- the part that is there can be changed so
  pub ready_here : IsChangeOf here c
  ready_here = subst (λ p. IsChangeOf p c) found_here is.ready.0

  -- the rest of the old list, and what is behind the name in it, rise
  pub rest_rises : AreInOrder rest
  rest_rises = pairs_from_ascending Rises rest (ascending_split Rises new rest is.rise).1

  module _ (part : Option Part) (becomes : part ≡ changed revision c.name (Some c) here) where
    named_part : IsNamed c.name part
    named_part = subst (IsNamed c.name) (sym becomes) (touched_named revision c.name (is_among c.gone) (come_by c) here split.named)

    whole_after : ((new ++ before) ++ option_to_list part) ++ after ≡ (new ++ before) ++ (option_to_list part ++ after)
    whole_after = append_assoc (new ++ before) (option_to_list part) after

    same_other : (other : PartName) → is_name c.name other ≡ false → lookup other (((new ++ before) ++ option_to_list part) ++ after) ≡ lookup other (new ++ rest)
    same_other other ne =
        ap (lookup other) whole_after ∙ found_other c.name other (new ++ before) part after named_part ne
        ∙ sym (ap (lookup other) whole ∙ found_other c.name other (new ++ before) here after split.named ne)

    up : IsAscending Rises ((new ++ before) ++ (option_to_list here ++ after))
    up = subst (IsAscending Rises) whole is.rise

    rise_more : IsAscending Rises (((new ++ before) ++ option_to_list part) ++ after)
    rise_more =
        let parts = ascending_split Rises (new ++ before) (option_to_list here ++ after) up in
        subst (IsAscending Rises) (sym whole_after) (rise_between c.name (new ++ before) part after below_here named_part above_here parts.0 (rise_after here after parts.1))

    below_part : (d : PartChange) → Follows c d → (p : Option Part) → IsNamed c.name p → AllByRecursion (IsBelow d.name) (option_to_list p)
    below_part d lt None named = tt
    below_part d lt (Some p) named = (subst (λ n. name_order n d.name ≡ Less) (sym named) lt, tt)

    below_more : AllByRecursion (λ d. AllByRecursion (IsBelow d.name) ((new ++ before) ++ option_to_list part)) left
    below_more =
        all_weaker (Follows c) (λ d. AllByRecursion (IsBelow d.name) ((new ++ before) ++ option_to_list part))
        (λ d lt. all-append (IsBelow d.name) (new ++ before) (option_to_list part) (all_weaker (IsBelow c.name) (IsBelow d.name) (λ p low. name_total.trans p.name c.name d.name low lt) (new ++ before) below_here) (below_part d lt part named_part))
        left is.apart.0

    ready_more : AllByRecursion (λ d. IsChangeOf (lookup d.name (((new ++ before) ++ option_to_list part) ++ after)) d) left
    ready_more =
        all_both (Follows c) (λ d. IsChangeOf (lookup d.name (new ++ rest)) d) (λ d. IsChangeOf (lookup d.name (((new ++ before) ++ option_to_list part) ++ after)) d)
        (λ d lt ready. subst (λ p. IsChangeOf p d) (sym (same_other d.name (other_name c.name d.name lt))) ready) left is.apart.0 is.ready.1

    kept_here : changed revision c.name (change_of c.name left) (lookup c.name (((new ++ before) ++ option_to_list part) ++ after)) ≡ changed revision c.name (change_of c.name changes) (lookup c.name old)
    kept_here =
        ap (λ f. changed revision c.name f (lookup c.name (((new ++ before) ++ option_to_list part) ++ after))) (only_one c left is.apart.0)
        ∙ (ap (lookup c.name) whole_after ∙ found_between c.name (new ++ before) part after below_here named_part above_here)
        ∙ becomes ∙ ap (changed revision c.name (Some c)) (sym found_here) ∙ (rw (name_self c.name) at (is.each c.name))

    each_more : (name : PartName) → changed revision name (change_of name left) (lookup name (((new ++ before) ++ option_to_list part) ++ after)) ≡ changed revision name (change_of name changes) (lookup name old)
    each_more name = go (is_name c.name name) refl
      where
        go : (t : Bool) → is_name c.name name ≡ t → changed revision name (change_of name left) (lookup name (((new ++ before) ++ option_to_list part) ++ after)) ≡ changed revision name (change_of name changes) (lookup name old)
        go true e = subst (λ n. changed revision n (change_of n left) (lookup n (((new ++ before) ++ option_to_list part) ++ after)) ≡ changed revision n (change_of n changes) (lookup n old)) (same_name c.name name e) kept_here
        go false e = ap (changed revision name (change_of name left)) (same_other name e) ∙ (rw e at (is.each name))

    -- what the touched part becomes stands in its place
    pub midway_more : IsMidway revision changes left old ((new ++ before) ++ option_to_list part) after
    midway_more = record { rise = rise_more; below = below_more; apart = is.apart.1; ready = ready_more; each = each_more }
