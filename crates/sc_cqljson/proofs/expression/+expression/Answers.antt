use Rattle.std.proofs.Common.{ℕ, ◌≤◌, List, [], length, take, Some, None, sym, ap, ◌∙◌, subst, refl, arith}
use Rattle.std.specs.List.{All}
use Rattle.std.proofs.lemmas.List.{take_all}
use Rattle.std.proofs.lemmas.List.Elements.{All-nil, All-push}
use Rattle.std.proofs.lemmas.Result.{err_from_is_err_and}
use Rattle.sc_expr.specs.declared.fault.CqlFault.TheVariants.{Syntax}
use Rattle.sc_expr.specs.Filter.{in_bits}
use Rattle.sc_expr.proofs.Formed.{const_formed, and_formed, or_formed, not_formed}
use Rattle.sc_cqljson.specs.declared.operator.Operator.TheVariants.{CaseI}
use Rattle.sc_cqljson.specs.Words.{op_name}
use Rattle.sc_cqljson.specs.Operators.{expression}
use Rattle.sc_cqljson.specs.Heads.{number_of}
use Rattle.sc_expr.specs.Form.{IsFormed}
use Rattle.sc_cqljson.specs.Spells.{SpellAll, none_left, const, applied}
use Rattle.sc_cqljson.proofs.Telling.{told_behind}
use Rattle.sc_cqljson.proofs.Leaves.{no_expression, no_expression_headed, told_of_call}
use Rattle.sc_cqljson.proofs.Smaller.{args_smaller, element_smaller}
use Rattle.sc_cqljson.proofs.Applying.{and_count, or_count, and_applied, or_applied, not_applied, not_told, members_grow, members_length, told_member}
use Rattle.sc_cqljson.proofs.Folding.{told_called, told_lacking}
use Rattle.sc_cqljson.proofs.expression.+expression.Goals as goal

pub expression_behind-returns-in-Err-clause-answer : goal.expression_behind-returns-in-Err-clause-answer
expression_behind-returns-in-Err-clause-answer t c =
    told_behind expression c.args.arg.now c.args.before.now c.in-Err.fault c.behind.result c.number_behind.result c.behind.ensures c.number_behind.ensures c.in-Err.ensures.answer

pub read_expression-returns-in-Truth-clause-formed : goal.read_expression-returns-in-Truth-clause-formed
read_expression-returns-in-Truth-clause-formed t c = const_formed c.in-Truth.truth

pub read_expression-returns-in-Truth-clause-answer : goal.read_expression-returns-in-Truth-clause-answer
read_expression-returns-in-Truth-clause-answer t c = const c.args.tree.now c.in-Truth.truth c.in-Truth.is

pub read_applied-returns-in_err-member-in-Not-clause-answer : goal.read_applied-returns-in_err-member-in-Not-clause-answer
read_applied-returns-in_err-member-in-Not-clause-answer t c =
    let p = err_from_is_err_and c.from_residual-in_err-member-in-Not.result c.from_residual-in_err-member-in-Not.ensures.1 in
    rw (p.1, p.2) (not_told c.args.operator c.args.args.now c.index-args-0.result c.in_err-member-in-Not.field-0.0 c.in-Not.is c.requires.count c.index-args-0.is c.in_err-member-in-Not.ensures.answer)

pub read_applied-returns-in_ok-read_members-in-And-clause-formed : goal.read_applied-returns-in_ok-read_members-in-And-clause-formed
read_applied-returns-in_ok-read_members-in-And-clause-formed t c =
    let r = c.in_ok-read_members-in-And in
    rw c.of.ensures
    (and_formed r.field-0.items (subst (λ (n : ℕ). 2 ≤ n) (sym r.ensures.formed.0) (and_count c.args.operator (length c.args.args.now) c.in-And.is c.requires.count)) r.ensures.formed.1)

pub read_applied-returns-in_ok-read_members-in-And-clause-answer : goal.read_applied-returns-in_ok-read_members-in-And-clause-answer
read_applied-returns-in_ok-read_members-in-And-clause-answer t c =
    let r = c.in_ok-read_members-in-And in
    and_applied c.args.operator c.args.args.now c.of.result r.field-0.items c.in-And.is c.requires.count c.of.ensures r.ensures.answer

pub read_applied-returns-in_ok-new-in-Not-clause-formed : goal.read_applied-returns-in_ok-new-in-Not-clause-formed
read_applied-returns-in_ok-new-in-Not-clause-formed t c =
    rw c.in_ok-new-in-Not.ensures (not_formed c.in_ok-member-in-Not.member c.in_ok-member-in-Not.ensures.formed)

pub read_applied-returns-in_ok-new-in-Not-clause-answer : goal.read_applied-returns-in_ok-new-in-Not-clause-answer
read_applied-returns-in_ok-new-in-Not-clause-answer t c =
    let r = c.in_ok-member-in-Not in
    not_applied c.args.operator c.args.args.now c.index-args-0.result r.member c.in_ok-new-in-Not.field-0 c.in-Not.is c.requires.count c.index-args-0.is c.in_ok-new-in-Not.ensures r.ensures.answer

pub read_call-returns-in_err-operator-clause-answer : goal.read_call-returns-in_err-operator-clause-answer
read_call-returns-in_err-operator-clause-answer t c =
    let p = err_from_is_err_and c.from_residual.result c.from_residual.ensures.1 in
    let e = c.in_err-operator.ensures in
    rw (p.1, p.2) (told_of_call expression c.args.tree.now c.args.op.now None (number_of c.args.tree.now op_name) c.in_err-operator.field-0.0 c.requires e.0 tt e.1 refl)

pub read_members-loop-i-init : goal.read_members-loop-i-init
read_members-loop-i-init t c =
    (subst (SpellAll []) (sym c.in_ok-members.ensures.items) none_left, subst (All IsFormed) (sym c.in_ok-members.ensures.items) (All-nil IsFormed))

pub read_members-expression_behind-requires : goal.read_members-expression_behind-requires
read_members-expression_behind-requires t c =
    (omega (arith, element_smaller c.args.args.now c.index-args-i.result c.loop-i.i c.loop-i-test.true c.index-args-i.is), tt)

pub read_members-returns-in_err-expression_behind-clause-answer : goal.read_members-returns-in_err-expression_behind-clause-answer
read_members-returns-in_err-expression_behind-clause-answer t c =
    let p = err_from_is_err_and c.from_residual-in_err-expression_behind.result c.from_residual-in_err-expression_behind.ensures.1 in
    rw (p.1, p.2)
    (told_member c.args.args.now c.loop-i.i c.index-args-i.result c.loop-i.members.items c.in_err-expression_behind.field-0.0 c.loop-i-test.true c.index-args-i.is c.loop-i.invariant.0
    c.in_err-expression_behind.ensures.answer)

pub read_members-loop-i-preserved : goal.read_members-loop-i-preserved
read_members-loop-i-preserved t c = (
  members_grow c.args.args.now c.loop-i.i c.index-args-i.result c.loop-i.members.items c.push.new.self.items c.in_ok-expression_behind.field-0 c.loop-i-test.true c.index-args-i.is
      c.loop-i.invariant.0 c.in_ok-expression_behind.ensures.answer c.in_ok-push.ensures.items,
  subst (All IsFormed) (sym c.in_ok-push.ensures.items) (All-push IsFormed c.loop-i.members.items c.in_ok-expression_behind.field-0 c.loop-i.invariant.1 c.in_ok-expression_behind.ensures.formed),
)

pub read_members-returns-clause-formed : goal.read_members-returns-clause-formed
read_members-returns-clause-formed t c = (
  members_length (take c.loop-i.i c.args.args.now) c.loop-i.members.items c.loop-i.invariant.0 ∙ ap length (take_all c.loop-i.i c.args.args.now c.loop-i-test.false),
  c.loop-i.invariant.1,
)

pub read_expression-returns-in_default-head_of : goal.read_expression-returns-in_default-head_of
read_expression-returns-in_default-head_of t c = record {
  formed = tt;
  answer = no_expression_headed c.args.tree.now c.in-Object.field-0 c.head_of.result c.in-Object.is c.head_of.ensures c.in_default-head_of.not-Call;
}

pub read_expression-returns-in_default : goal.read_expression-returns-in_default
read_expression-returns-in_default t c = record { formed = tt; answer = no_expression c.args.tree.now c.in_default.not-Truth c.in_default.not-Object }

pub read_applied-returns-in_ok-read_members-in-Or-clause-formed : goal.read_applied-returns-in_ok-read_members-in-Or-clause-formed
read_applied-returns-in_ok-read_members-in-Or-clause-formed t c =
    let r = c.in_ok-read_members-in-Or in
    rw c.of-in-Or.ensures
    (or_formed r.field-0.items (subst (λ (n : ℕ). 2 ≤ n) (sym r.ensures.formed.0) (or_count c.args.operator (length c.args.args.now) c.in-Or.is c.requires.count)) r.ensures.formed.1)

pub read_applied-returns-in_ok-read_members-in-Or-clause-answer : goal.read_applied-returns-in_ok-read_members-in-Or-clause-answer
read_applied-returns-in_ok-read_members-in-Or-clause-answer t c =
    let r = c.in_ok-read_members-in-Or in
    or_applied c.args.operator c.args.args.now c.of-in-Or.result r.field-0.items c.in-Or.is c.requires.count c.of-in-Or.ensures r.ensures.answer

pub read_call-returns-in-CaseI-clause-answer : goal.read_call-returns-in-CaseI-clause-answer
read_call-returns-in-CaseI-clause-answer t c =
    told_of_call expression c.args.tree.now c.args.op.now (Some CaseI) 0 (Syntax 0) c.requires (c.in_ok-operator.ensures ∙ ap Some c.in-CaseI.is) tt refl refl

pub read_fitting-returns-in_err-args_of-clause-answer : goal.read_fitting-returns-in_err-args_of-clause-answer
read_fitting-returns-in_err-args_of-clause-answer t c =
    let p = err_from_is_err_and c.from_residual.result c.from_residual.ensures.1 in
    rw (p.1, p.2) (told_lacking expression c.args.operator c.args.tree.now c.in_err-args_of.field-0.0 c.requires.calls c.requires.gives tt c.in_err-args_of.ensures)

pub read_fitting-read_applied-requires : goal.read_fitting-read_applied-requires
read_fitting-read_applied-requires t c =
    let args = c.in_ok-args_of.field-0.now in
    (omega (arith, args_smaller c.args.tree.now args c.in_ok-args_of.ensures.0), (c.requires.gives, c.in_ok-args_of.ensures.1))

pub read_fitting-returns-in-Ok-clause-answer : goal.read_fitting-returns-in-Ok-clause-answer
read_fitting-returns-in-Ok-clause-answer t c =
    applied c.args.tree.now c.args.operator c.in_ok-args_of.field-0.now c.in-Ok.expr (record { by = c.requires.calls; on = c.in_ok-args_of.ensures.0 }) c.in-Ok.ensures.answer

pub read_fitting-returns-in-Err-clause-answer : goal.read_fitting-returns-in-Err-clause-answer
read_fitting-returns-in-Err-clause-answer t c =
    told_called expression c.args.operator c.args.tree.now c.in_ok-args_of.field-0.now c.in-Err.fault c.behind.result c.number_of.result c.behind.ensures
    (c.number_of.ensures ∙ ap (λ (n : List ℕ). in_bits 64 (number_of c.args.tree.now n)) c.args_name.ensures)
    (record { by = c.requires.calls; on = c.in_ok-args_of.ensures.0 }) c.in_ok-args_of.ensures.1 c.requires.gives tt c.in-Err.ensures.answer
