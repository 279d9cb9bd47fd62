-- The list that `in` looks through.
use Rattle.std.proofs.Common.{◌≡◌, ◌≤◌, List, [], ◌∷◌, length, map, Some, None, Result, Ok, Err, refl, sym, ap, zero-add}
use Rattle.std.specs.Prelude.{MatchResult}
use Rattle.sc_json.specs.declared.tree.Json.{Json}
use Rattle.sc_json.specs.declared.tree.Json.TheOpen as layer
use Rattle.sc_json.specs.declared.tree.Json.TheOpen.{Json-F}
use Rattle.sc_json.specs.declared.tree.Json.TheViews.{out-Json}
use Rattle.sc_json.specs.declared.tree.Member.{Member}
use Rattle.sc_expr.specs.declared.scalar.Scalar.{Scalar}
use Rattle.sc_expr.specs.declared.fault.CqlFault.{CqlFault}
use Rattle.sc_expr.specs.declared.fault.CqlFault.TheVariants.{Syntax}
use Rattle.sc_json.specs.Views.{list_in, list_of}
use Rattle.sc_cqljson.specs.Operators.{scalar, listed}
use Rattle.sc_cqljson.specs.Spells.{SpellScalars, SpellsList}
use Rattle.sc_cqljson.specs.Forms.{unfit, misplaced, elements_form, form_in, form_of}
use Rattle.sc_cqljson.specs.Unfit.{Unfit, UnfitAmong}
use Rattle.sc_cqljson.specs.Told.{Tells, Later}
use Rattle.sc_cqljson.proofs.Telling.{told_as, told_within}
use Rattle.sc_cqljson.proofs.Leaves.{misplaced_here}
use Rattle.sc_cqljson.proofs.Excluding.{list_form}

unlisted : (level : Json-F Json Member) (tree : Json) → list_in level ≡ None → form_in listed tree level ≡ unfit 0 misplaced
unlisted layer.Null tree e = refl
unlisted (layer.Truth b) tree e = refl
unlisted (layer.Number n) tree e = refl
unlisted (layer.Text t) tree e = refl
unlisted (layer.List xs) tree e = absurd cc
unlisted (layer.Object ms) tree e = refl

pub no_list : (tree : Json) → list_of tree ≡ None → Tells (Unfit listed tree) (Syntax 0)
unfolding list_of form_of
no_list tree e = misplaced_here listed tree (unlisted (out-Json tree) tree e)

empty : (level : Json-F Json Member) (tree : Json) → list_in level ≡ Some [] → form_in listed tree level ≡ unfit 0 misplaced
empty layer.Null tree e = refl
empty (layer.Truth b) tree e = refl
empty (layer.Number n) tree e = refl
empty (layer.Text t) tree e = refl
empty (layer.List xs) tree e = let s : xs ≡ [] = cc in ap elements_form s
empty (layer.Object ms) tree e = refl

pub empty_list : (tree : Json) (xs : List Json) → list_of tree ≡ Some xs → length xs ≡ 0 → Tells (Unfit listed tree) (Syntax 0)
unfolding list_of form_of
empty_list tree [] e n = misplaced_here listed tree (empty (out-Json tree) tree e)
empty_list tree (x ∷ xs) e n = absurd cc

pub told_elements : (tree : Json) (xs : List Json) (f : CqlFault) → list_of tree ≡ Some xs → 1 ≤ length xs → Tells (UnfitAmong (map (λ _. scalar) xs) xs) f → Tells (Unfit listed tree) f
told_elements tree xs f e n t =
    told_within listed tree (map (λ _. scalar) xs) xs 0 f (list_form tree xs e n)
    (told_as (UnfitAmong (map (λ _. scalar) xs) xs) (Later 0 (UnfitAmong (map (λ _. scalar) xs) xs)) f (λ number how u. (number, sym (zero-add number), u)) t)

pub list_told : {V : Type 0} (items : V → List Scalar) (r : Result V CqlFault) (tree : Json) (xs : List Json) → list_of tree ≡ Some xs → 1 ≤ length xs →
    MatchResult r (λ v. SpellScalars xs (items v)) (Tells (UnfitAmong (map (λ _. scalar) xs) xs)) → MatchResult r (λ v. SpellsList tree (items v)) (Tells (Unfit listed tree))
list_told items (Ok v) tree xs e n s = record { elements = xs; are = e; some = n; spelled = s }
list_told items (Err f) tree xs e n t = told_elements tree xs f e n t
