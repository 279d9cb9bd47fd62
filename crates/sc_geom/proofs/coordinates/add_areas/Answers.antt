use Rattle.std.proofs.Common.{[], ◌∷◌, ◌++◌, subst, ap, refl, sym}
use Rattle.std.specs.Option.{option_map}
use Rattle.std.proofs.lemmas.Result.{err_from_is_err_and}
use Rattle.sc_geom.specs.Drawn.{each, area_of, areas_only}
use Rattle.sc_geom.specs.Building.{IsArea, IsDraft}
use Rattle.sc_geom.proofs.Steps.{read_ok, read_more, each_stops, stopped_adding, area_some, one_area_more}
use Rattle.sc_geom.proofs.Depicting.{beside_nothing}
use Rattle.sc_geom.proofs.coordinates.add_areas.Goals as goal

pub loop-element-init : goal.loop-element-init
loop-element-init c = λ s is. ([], refl, subst (IsDraft c.reserve_areas.new.self) (sym (beside_nothing s)) (c.in_ok-reserve_areas.ensures s is))

pub returns-in_err-read_area : goal.returns-in_err-read_area
returns-in_err-read_area c = λ s is.
    let p = err_from_is_err_and c.from_residual-in_err-read_area.result c.from_residual-in_err-read_area.ensures.1 in
    rw (p.1, p.2) (stopped_adding IsArea c.in_err-read_area.field-0.0 (area_of c.element-item.result) (option_map areas_only (each area_of c.args.tree.now)) s _ c.in_err-read_area.ensures
    (λ none. ap (option_map areas_only) (each_stops area_of c.args.tree.now c.in-Some.elements.now c.loop-element.element-index c.element-item.result c.in-Some.ensures.elements c.loop-element-test.true c.element-item.is none)))

pub loop-element-preserved : goal.loop-element-preserved
loop-element-preserved c = λ s is.
    let before = c.loop-element.invariant s is in
    let read = read_ok IsArea c.in_ok-read_area.field-0 (area_of c.element-item.result) c.in_ok-read_area.ensures in (
      before.0 ++ read.0 ∷ [],
      read_more area_of c.in-Some.elements.now c.loop-element.element-index c.element-item.result before.0 read.0 c.loop-element-test.true c.element-item.is before.1 read.1,
      subst (IsDraft c.add_area.new.self) (one_area_more s before.0 read.0) (c.in_ok-add_area.ensures _ read.0 before.2 read.2 (area_some c.element-item.result read.0 read.1)),
    )
