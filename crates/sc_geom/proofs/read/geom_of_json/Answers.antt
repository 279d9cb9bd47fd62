use Rattle.std.proofs.lemmas.Result.{err_from_is_err_and}
use Rattle.sc_geom.specs.Shapes.{nothing, beside}
use Rattle.sc_geom.proofs.Results.{fault_result, finished_result}
use Rattle.sc_geom.proofs.read.geom_of_json.Goals as goal

pub returns-in_err-add_geometry : goal.returns-in_err-add_geometry
returns-in_err-add_geometry c =
    let p = err_from_is_err_and c.from_residual.result c.from_residual.ensures.1 in
    rw (p.1, p.2) (fault_result c.in_err-add_geometry.field-0.0 c.args.tree.now c.args.most nothing _ (c.in_err-add_geometry.ensures nothing c.new-draft.ensures))

pub finish-requires : goal.finish-requires
finish-requires c =
    let read = c.in_ok-add_geometry.ensures nothing c.new-draft.ensures in
    (beside nothing read.0, read.2)

pub returns : goal.returns
returns c =
    let read = c.in_ok-add_geometry.ensures nothing c.new-draft.ensures in
    finished_result c.finish.result c.args.tree.now read.0 c.args.most read.1 (c.finish.ensures (beside nothing read.0) read.2)
