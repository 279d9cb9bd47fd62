use Rattle.std.proofs.Common.{[], ◌∷◌, ◌++◌}
use Rattle.std.proofs.lemmas.Result.{err_from_is_err_and}
use Rattle.sc_geom.specs.Drawn.{positions, area_of}
use Rattle.sc_geom.specs.Building.{IsPath, IsArea}
use Rattle.sc_geom.proofs.Steps.{read_ok, read_more, each_stops, stopped}
use Rattle.sc_geom.proofs.coordinates.read_area.Goals as goal

pub returns-in_err-read_positions : goal.returns-in_err-read_positions
unfolding area_of
returns-in_err-read_positions c =
    let p = err_from_is_err_and c.from_residual-in_err-read_positions.result c.from_residual-in_err-read_positions.ensures.1 in
    rw (p.1, p.2) (stopped IsPath IsArea c.in_err-read_positions.field-0.0 (positions c.element-item.result) (area_of c.args.tree.now) c.in_err-read_positions.ensures
    (each_stops positions c.args.tree.now c.in-Some.elements.now c.loop-element.element-index c.element-item.result c.in-Some.ensures.elements c.loop-element-test.true c.element-item.is))

pub loop-element-preserved : goal.loop-element-preserved
loop-element-preserved c =
    let so_far = c.loop-element.invariant.0 in
    let read = read_ok IsPath c.in_ok-read_positions.field-0 (positions c.element-item.result) c.in_ok-read_positions.ensures in (
      so_far ++ read.0 ∷ [],
      read_more positions c.in-Some.elements.now c.loop-element.element-index c.element-item.result so_far read.0 c.loop-element-test.true c.element-item.is c.loop-element.invariant.1 read.1,
      c.in_ok-push.ensures so_far read.0 c.loop-element.invariant.2 read.2,
    )
