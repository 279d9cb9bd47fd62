use Rattle.std.proofs.Common.{◌≡◌, [], ◌∷◌, ◌++◌, Option, subst}
use Rattle.std.proofs.lemmas.Result.{err_from_is_err_and}
use Rattle.sc_geom.specs.declared.point.Pt.{Pt}
use Rattle.sc_geom.specs.Drawn.{position_of, positions}
use Rattle.sc_geom.specs.Building.{IsPath}
use Rattle.sc_geom.proofs.Steps.{read_ok, read_more, each_stops, stopped}
use Rattle.sc_geom.proofs.coordinates.read_positions.Goals as goal

pub returns-in_err-read_position : goal.returns-in_err-read_position
returns-in_err-read_position c =
    let p = err_from_is_err_and c.from_residual-in_err-read_position.result c.from_residual-in_err-read_position.ensures.1 in
    rw (p.1, p.2) (stopped (λ (place expected : Option Pt). place ≡ expected) IsPath c.in_err-read_position.field-0.0 (position_of c.element-item.result) (positions c.args.tree.now) c.in_err-read_position.ensures.read
    (each_stops position_of c.args.tree.now c.in-Some.elements.now c.loop-element.element-index c.element-item.result c.in-Some.ensures.elements c.loop-element-test.true c.element-item.is))

pub loop-element-preserved : goal.loop-element-preserved
loop-element-preserved c =
    let so_far = c.loop-element.invariant.0 in
    let read = read_ok (λ (place expected : Option Pt). place ≡ expected) c.in_ok-read_position.field-0 (position_of c.element-item.result) c.in_ok-read_position.ensures.read in (
      so_far ++ read.0 ∷ [],
      read_more position_of c.in-Some.elements.now c.loop-element.element-index c.element-item.result so_far read.0 c.loop-element-test.true c.element-item.is c.loop-element.invariant.1 read.1,
      subst (λ (place : Option Pt). IsPath c.push.new.self (so_far ++ place ∷ [])) read.2 (c.in_ok-push.ensures so_far c.loop-element.invariant.2),
    )
