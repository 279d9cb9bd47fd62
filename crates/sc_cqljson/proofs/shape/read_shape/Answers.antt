use Rattle.std.proofs.Common.{Some, None, sym, refl}
use Rattle.std.proofs.lemmas.Result.{err_from_is_err_and}
use Rattle.sc_expr.specs.declared.fault.CqlFault.TheVariants.{Syntax}
use Rattle.sc_cqljson.specs.Words.{op_name}
use Rattle.sc_cqljson.specs.Operators.{shape}
use Rattle.sc_cqljson.specs.Heads.{number_of}
use Rattle.sc_cqljson.specs.Spells.{of_property, drawn}
use Rattle.sc_cqljson.proofs.Leaves.{no_shape, no_shape_headed, told_of_call, told_of_name, named_some}
use Rattle.sc_cqljson.proofs.Drawing.{draws_box, draws_plain, told_of_box, told_of_plain}
use Rattle.sc_cqljson.proofs.shape.read_shape.Goals as goal

pub returns-in_default : goal.returns-in_default
returns-in_default c = record { formed = tt; answer = no_shape c.args.tree.now c.in_default.not-Object }

pub returns-in_err-operator_in-in-Call-clause-answer : goal.returns-in_err-operator_in-in-Call-clause-answer
returns-in_err-operator_in-in-Call-clause-answer c =
    let p = err_from_is_err_and c.from_residual.result c.from_residual.ensures.1 in
    let e = c.in_err-operator_in-in-Call.ensures in
    rw (p.1, p.2) (told_of_call shape c.args.tree.now c.in-Call.op.now None (number_of c.args.tree.now op_name) c.in_err-operator_in-in-Call.field-0.0 (sym c.in-Call.ensures) e.0 tt e.1 refl)

pub returns-in_err-read_name-in-Property-clause-answer : goal.returns-in_err-read_name-in-Property-clause-answer
returns-in_err-read_name-in-Property-clause-answer c =
    let p = err_from_is_err_and c.from_residual-in_err-read_name-in-Property.result c.from_residual-in_err-read_name-in-Property.ensures.1 in
    rw (p.1, p.2) (told_of_name shape c.args.tree.now c.in-Property.value.now c.in_err-read_name-in-Property.field-0.0 c.in-Property.ensures tt refl c.in_err-read_name-in-Property.ensures)

pub returns-in_err-read_box-in-Bbox-clause-answer : goal.returns-in_err-read_box-in-Bbox-clause-answer
returns-in_err-read_box-in-Bbox-clause-answer c =
    let p = err_from_is_err_and c.from_residual-in_err-read_box-in-Bbox.result c.from_residual-in_err-read_box-in-Bbox.ensures.1 in
    rw (p.1, p.2) (told_of_box c.args.tree.now c.in-Bbox.value.now c.in_err-read_box-in-Bbox.field-0.0 c.in-Bbox.ensures c.in_err-read_box-in-Bbox.ensures)

pub returns-in_err-read_geometry-in-Geometry-clause-answer : goal.returns-in_err-read_geometry-in-Geometry-clause-answer
returns-in_err-read_geometry-in-Geometry-clause-answer c =
    let p = err_from_is_err_and c.from_residual-in_err-read_geometry-in-Geometry.result c.from_residual-in_err-read_geometry-in-Geometry.ensures.1 in
    rw (p.1, p.2) (told_of_plain c.args.tree.now c.in_err-read_geometry-in-Geometry.field-0.0 c.in-Geometry.ensures c.in_err-read_geometry-in-Geometry.ensures)

pub returns-in_ok-operator_in-in-Call-clause-answer : goal.returns-in_ok-operator_in-in-Call-clause-answer
returns-in_ok-operator_in-in-Call-clause-answer c =
    told_of_call shape c.args.tree.now c.in-Call.op.now (Some c.in_ok-operator_in-in-Call.field-0) 0 (Syntax 0) (sym c.in-Call.ensures) c.in_ok-operator_in-in-Call.ensures tt refl refl

pub returns-in_ok-read_name-in-Property-clause-formed : goal.returns-in_ok-read_name-in-Property-clause-formed
returns-in_ok-read_name-in-Property-clause-formed c = named_some c.in-Property.value.now c.in_ok-read_name-in-Property.field-0 c.in_ok-read_name-in-Property.ensures

pub returns-in_ok-read_name-in-Property-clause-answer : goal.returns-in_ok-read_name-in-Property-clause-answer
returns-in_ok-read_name-in-Property-clause-answer c =
    of_property c.args.tree.now c.in-Property.value.now c.in_ok-read_name-in-Property.field-0 (sym c.in-Property.ensures) c.in_ok-read_name-in-Property.ensures

pub returns-in_ok-read_box-in-Bbox-clause-answer : goal.returns-in_ok-read_box-in-Bbox-clause-answer
returns-in_ok-read_box-in-Bbox-clause-answer c =
    drawn c.args.tree.now c.in_ok-read_box-in-Bbox.field-0 (draws_box c.args.tree.now c.in-Bbox.value.now c.in_ok-read_box-in-Bbox.field-0 c.in-Bbox.ensures c.in_ok-read_box-in-Bbox.ensures)

pub returns-in_ok-read_geometry-in-Geometry-clause-answer : goal.returns-in_ok-read_geometry-in-Geometry-clause-answer
returns-in_ok-read_geometry-in-Geometry-clause-answer c =
    drawn c.args.tree.now c.in_ok-read_geometry-in-Geometry.field-0 (draws_plain c.args.tree.now c.in_ok-read_geometry-in-Geometry.field-0 c.in-Geometry.ensures c.in_ok-read_geometry-in-Geometry.ensures)

pub returns-in_default-head_of-clause-answer : goal.returns-in_default-head_of-clause-answer
returns-in_default-head_of-clause-answer c =
    no_shape_headed c.args.tree.now c.in-Object.field-0 c.head_of.result c.in-Object.is c.head_of.ensures c.in_default-head_of.not-Call c.in_default-head_of.not-Property c.in_default-head_of.not-Bbox
    c.in_default-head_of.not-Geometry
