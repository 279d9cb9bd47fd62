use Rattle.std.proofs.Common.{sym, ◌∙◌, refl, arith}
use Rattle.std.proofs.lemmas.Result.{err_from_is_err_and}
use Rattle.sc_expr.proofs.Formed.{property_formed, text_formed, number_formed, truth_formed, moment_formed, folded_formed}
use Rattle.sc_cqljson.specs.Operators.{scalar}
use Rattle.sc_cqljson.specs.Heads.{timestamp, date}
use Rattle.sc_cqljson.specs.Drawn.{instant_in, date_in}
use Rattle.sc_cqljson.specs.Spells.{prop, text, number, truth, timed, dated, folded}
use Rattle.sc_cqljson.proofs.Smaller.{arg_smaller}
use Rattle.sc_cqljson.proofs.Leaves.{told_of_folding, no_scalar, no_scalar_headed, named_some, told_of_name, told_of_moment}
use Rattle.sc_cqljson.proofs.Folding.{told_folded, text_is, number_is}
use Rattle.sc_cqljson.proofs.scalar.+scalar.Goals as goal

pub read_folded-returns-in_err-folded_in-clause-answer : goal.read_folded-returns-in_err-folded_in-clause-answer
read_folded-returns-in_err-folded_in-clause-answer t c =
    let p = err_from_is_err_and c.from_residual.result c.from_residual.ensures.1 in
    rw (p.1, p.2) (told_of_folding scalar c.args.tree.now c.args.op.now c.in_err-folded_in.field-0.0 c.requires refl tt c.in_err-folded_in.ensures)

pub read_folded-read_scalar-requires : goal.read_folded-read_scalar-requires
read_folded-read_scalar-requires t c = (omega (arith, arg_smaller c.args.tree.now c.in_ok-folded_in.field-0.now c.in_ok-folded_in.ensures.on), tt)

pub read_folded-returns-in_ok-new-in-Ok-clause-formed : goal.read_folded-returns-in_ok-new-in-Ok-clause-formed
read_folded-returns-in_ok-new-in-Ok-clause-formed t c = rw c.in_ok-new-in-Ok.ensures (folded_formed c.in-Ok.scalar c.in-Ok.ensures.formed)

pub read_folded-returns-in_ok-new-in-Ok-clause-answer : goal.read_folded-returns-in_ok-new-in-Ok-clause-answer
read_folded-returns-in_ok-new-in-Ok-clause-answer t c =
    rw c.in_ok-new-in-Ok.ensures (folded c.args.tree.now c.in_ok-folded_in.field-0.now c.in-Ok.scalar c.in_ok-folded_in.ensures c.in-Ok.ensures.answer)

pub read_folded-returns-in-Err-clause-answer : goal.read_folded-returns-in-Err-clause-answer
read_folded-returns-in-Err-clause-answer t c =
    told_folded scalar c.args.tree.now c.in_ok-folded_in.field-0.now c.in-Err.fault c.within_folded.result c.within_folded.ensures refl tt c.in_ok-folded_in.ensures c.in-Err.ensures.answer

pub read_scalar-returns-in_err-read_name-in-Property-clause-answer : goal.read_scalar-returns-in_err-read_name-in-Property-clause-answer
read_scalar-returns-in_err-read_name-in-Property-clause-answer t c =
    let p = err_from_is_err_and c.from_residual-in_err-read_name-in-Property.result c.from_residual-in_err-read_name-in-Property.ensures.1 in
    rw (p.1, p.2) (told_of_name scalar c.args.tree.now c.in-Property.value.now c.in_err-read_name-in-Property.field-0.0 c.in-Property.ensures tt refl c.in_err-read_name-in-Property.ensures)

pub read_scalar-returns-in_err-readable-in-Timestamp-clause-answer : goal.read_scalar-returns-in_err-readable-in-Timestamp-clause-answer
read_scalar-returns-in_err-readable-in-Timestamp-clause-answer t c =
    let p = err_from_is_err_and c.from_residual-in_err-readable-in-Timestamp.result c.from_residual-in_err-readable-in-Timestamp.ensures.1 in
    let r = c.in_err-readable-in-Timestamp.ensures in
    rw (p.1, p.2)
    (told_of_moment c.args.tree.now (timestamp c.in-Timestamp.value.now) (instant_in c.in-Timestamp.value.now) c.in_err-readable-in-Timestamp.field-0.0 c.in-Timestamp.ensures tt refl
    (sym c.instant_in.ensures ∙ r.0, r.1))

pub read_scalar-returns-in_err-readable-in-Date-clause-answer : goal.read_scalar-returns-in_err-readable-in-Date-clause-answer
read_scalar-returns-in_err-readable-in-Date-clause-answer t c =
    let p = err_from_is_err_and c.from_residual-in_err-readable-in-Date.result c.from_residual-in_err-readable-in-Date.ensures.1 in
    let r = c.in_err-readable-in-Date.ensures in
    rw (p.1, p.2)
    (told_of_moment c.args.tree.now (date c.in-Date.value.now) (date_in c.in-Date.value.now) c.in_err-readable-in-Date.field-0.0 c.in-Date.ensures tt refl
    (sym c.date_in.ensures ∙ r.0, r.1))

pub read_scalar-returns-in-Truth-clause-formed : goal.read_scalar-returns-in-Truth-clause-formed
read_scalar-returns-in-Truth-clause-formed t c = truth_formed c.in-Truth.truth

pub read_scalar-returns-in-Truth-clause-answer : goal.read_scalar-returns-in-Truth-clause-answer
read_scalar-returns-in-Truth-clause-answer t c = truth c.args.tree.now c.in-Truth.truth c.in-Truth.is

pub read_scalar-returns-in-Number-clause-formed : goal.read_scalar-returns-in-Number-clause-formed
read_scalar-returns-in-Number-clause-formed t c = number_formed c.in-Number.number.dec

pub read_scalar-returns-in-Number-clause-answer : goal.read_scalar-returns-in-Number-clause-answer
read_scalar-returns-in-Number-clause-answer t c = number c.args.tree.now c.in-Number.number.dec (number_is c.args.tree.now c.in-Number.number c.in-Number.is)

pub read_scalar-returns-in_ok-try_clone-in-Text-clause-formed : goal.read_scalar-returns-in_ok-try_clone-in-Text-clause-formed
read_scalar-returns-in_ok-try_clone-in-Text-clause-formed t c = text_formed c.in_ok-try_clone-in-Text.field-0

pub read_scalar-returns-in_ok-try_clone-in-Text-clause-answer : goal.read_scalar-returns-in_ok-try_clone-in-Text-clause-answer
read_scalar-returns-in_ok-try_clone-in-Text-clause-answer t c =
    text c.args.tree.now c.in_ok-try_clone-in-Text.field-0 (text_is c.args.tree.now _ _ c.in-Text.is c.in_ok-try_clone-in-Text.ensures)

pub read_scalar-returns-in_ok-read_name-in-Property-clause-formed : goal.read_scalar-returns-in_ok-read_name-in-Property-clause-formed
read_scalar-returns-in_ok-read_name-in-Property-clause-formed t c =
    property_formed c.in_ok-read_name-in-Property.field-0 (named_some c.in-Property.value.now c.in_ok-read_name-in-Property.field-0 c.in_ok-read_name-in-Property.ensures)

pub read_scalar-returns-in_ok-read_name-in-Property-clause-answer : goal.read_scalar-returns-in_ok-read_name-in-Property-clause-answer
read_scalar-returns-in_ok-read_name-in-Property-clause-answer t c =
    prop c.args.tree.now c.in-Property.value.now c.in_ok-read_name-in-Property.field-0 (sym c.in-Property.ensures) c.in_ok-read_name-in-Property.ensures

pub read_scalar-returns-in_ok-readable-in-Timestamp-clause-formed : goal.read_scalar-returns-in_ok-readable-in-Timestamp-clause-formed
read_scalar-returns-in_ok-readable-in-Timestamp-clause-formed t c = moment_formed c.in_ok-readable-in-Timestamp.field-0

pub read_scalar-returns-in_ok-readable-in-Timestamp-clause-answer : goal.read_scalar-returns-in_ok-readable-in-Timestamp-clause-answer
read_scalar-returns-in_ok-readable-in-Timestamp-clause-answer t c =
    timed c.args.tree.now c.in-Timestamp.value.now c.in_ok-readable-in-Timestamp.field-0 (sym c.in-Timestamp.ensures) (sym c.instant_in.ensures ∙ c.in_ok-readable-in-Timestamp.ensures)

pub read_scalar-returns-in_ok-readable-in-Date-clause-formed : goal.read_scalar-returns-in_ok-readable-in-Date-clause-formed
read_scalar-returns-in_ok-readable-in-Date-clause-formed t c = moment_formed c.in_ok-readable-in-Date.field-0

pub read_scalar-returns-in_ok-readable-in-Date-clause-answer : goal.read_scalar-returns-in_ok-readable-in-Date-clause-answer
read_scalar-returns-in_ok-readable-in-Date-clause-answer t c =
    dated c.args.tree.now c.in-Date.value.now c.in_ok-readable-in-Date.field-0 (sym c.in-Date.ensures) (sym c.date_in.ensures ∙ c.in_ok-readable-in-Date.ensures)

pub read_scalar-returns-in_default-clause-answer : goal.read_scalar-returns-in_default-clause-answer
read_scalar-returns-in_default-clause-answer t c =
    no_scalar c.args.tree.now c.in_default.not-Truth c.in_default.not-Number c.in_default.not-Text c.in_default.not-Object

pub read_scalar-returns-in_default-head_of-clause-answer : goal.read_scalar-returns-in_default-head_of-clause-answer
read_scalar-returns-in_default-head_of-clause-answer t c =
    no_scalar_headed c.args.tree.now c.in-Object.field-0 c.head_of.result c.in-Object.is c.head_of.ensures c.in_default-head_of.not-Call c.in_default-head_of.not-Property
    c.in_default-head_of.not-Timestamp c.in_default-head_of.not-Date
