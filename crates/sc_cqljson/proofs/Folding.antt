-- What an object folds is at fault where the object is.
use Rattle.std.proofs.Common.{◌≡◌, ℕ, true, List, [], ◌∷◌, length, Some, refl, sym, ap, subst, ◌∙◌}
use Rattle.sc_json.specs.declared.tree.Json.{Json}
use Rattle.sc_json.specs.declared.tree.Json.TheVariants as trees
use Rattle.sc_json.specs.declared.tree.Json.TheViews.{out-Json}
use Rattle.sc_json.specs.declared.tree.Num.{Num}
use Rattle.sc_expr.specs.declared.fault.CqlFault.{CqlFault}
use Rattle.sc_expr.specs.Filter.{in_bits}
use Rattle.sc_cqljson.specs.declared.operator.Operator.{Operator}
use Rattle.sc_cqljson.specs.declared.operator.Operator.TheVariants.{And, Or, Not, Compare, IsNull, Between, In, Like, CaseI, Intersects}
use Rattle.sc_json.specs.Views.{text_in, number_in, text_of, number_of}
use Rattle.sc_cqljson.specs.Words.{args_name}
use Rattle.sc_cqljson.specs.Operators.{Role, arguments, is_expression, fits, takes, roles_of}
use Rattle.sc_cqljson.specs.Heads as heads
use Rattle.sc_cqljson.specs.Heads.{called_by}
use Rattle.sc_cqljson.specs.Spells.{Calls}
use Rattle.sc_cqljson.specs.Forms.{within, form_of}
use Rattle.sc_cqljson.specs.Unfit.{Unfit, UnfitAmong}
use Rattle.sc_cqljson.specs.Told.{Tells, behind, number_behind, LacksArguments}
use Rattle.sc_cqljson.proofs.Tags.{call_of}
use Rattle.sc_cqljson.proofs.Forming.{IsObjectPlace, fitting_call, formed_within}
use Rattle.sc_cqljson.proofs.Telling.{told_later, told_among, told_within}
use Rattle.sc_cqljson.proofs.Leaves.{out_text, out_number, told_of_call}

-- ---- by the arguments of a call

pub called_within : (role : Role) (o : Operator) (tree : Json) (args : List Json) → Calls tree o args → takes o (length args) ≡ true → fits role o ≡ true → IsObjectPlace role →
    form_of role tree ≡ within (roles_of (arguments role o) args) args (heads.number_of tree args_name)
called_within role o tree args c n f place = let k = call_of tree o c.by in formed_within role o tree k.0 args k.1 (sym (ap called_by k.1) ∙ c.by) c.on n f place

pub told_called : (role : Role) (o : Operator) (tree : Json) (args : List Json) (f g : CqlFault) (count : ℕ) → g ≡ behind count f → count ≡ in_bits 64 (heads.number_of tree args_name) →
    Calls tree o args → takes o (length args) ≡ true → fits role o ≡ true → IsObjectPlace role →
    Tells (UnfitAmong (roles_of (arguments role o) args) args) f → Tells (Unfit role tree) g
told_called role o tree args f g count e n c taken fit place t =
    subst (Tells (Unfit role tree)) (sym e)
    (told_within role tree (roles_of (arguments role o) args) args (heads.number_of tree args_name) (behind count f) (called_within role o tree args c taken fit place)
    (told_later (UnfitAmong (roles_of (arguments role o) args) args) f (heads.number_of tree args_name) count n t))

pub told_folded : (role : Role) (tree arg : Json) (f g : CqlFault) → g ≡ behind (in_bits 64 (heads.number_of tree args_name)) (behind 1 f) → fits role CaseI ≡ true → IsObjectPlace role →
    Calls tree CaseI (arg ∷ []) → Tells (Unfit role arg) f → Tells (Unfit role tree) g
told_folded role tree arg f g e fit place c t =
    told_called role CaseI tree (arg ∷ []) (behind 1 f) g (in_bits 64 (heads.number_of tree args_name)) e refl c refl fit place
    (told_among [] [] [] [] role arg (behind 1 f) tt (told_later (Unfit role arg) f (number_behind []) 1 refl t))

-- ---- texts and numbers

pub text_is : (tree : Json) (t u : List ℕ) → tree ≡ trees.Text t → u ≡ t → text_of tree ≡ Some u
unfolding text_of
text_is tree t u e f = ap text_in (ap out-Json e ∙ out_text t) ∙ ap Some (sym f)

pub number_is : (tree : Json) (n : Num) → tree ≡ trees.Number n → number_of tree ≡ Some n.dec
unfolding number_of
number_is tree n e = ap number_in (ap out-Json e ∙ out_number n)

-- ---- an object without the arguments that its operator takes

pub told_lacking : (role : Role) (o : Operator) (tree : Json) (f : CqlFault) → heads.operator_of tree ≡ Some o → fits role o ≡ true → IsObjectPlace role → LacksArguments tree o f → Tells (Unfit role tree) f
told_lacking role o tree f by fit place lacks =
    let k = call_of tree o by in
    told_of_call role tree k.0 (Some o) lacks.0 f k.1 (sym (ap called_by k.1) ∙ by) place lacks.1 (fitting_call role o tree fit ∙ lacks.2 role)

pub gives_expression : (o : Operator) → (o ≡ CaseI → ⊥) → is_expression o ≡ true
gives_expression And other = refl
gives_expression Or other = refl
gives_expression Not other = refl
gives_expression (Compare op) other = refl
gives_expression IsNull other = refl
gives_expression Between other = refl
gives_expression In other = refl
gives_expression Like other = refl
gives_expression CaseI other = absurd (other refl)
gives_expression Intersects other = refl
