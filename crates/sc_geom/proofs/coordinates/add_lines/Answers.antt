use Rattle.std.proofs.Common.{[], ◌∷◌, ◌++◌, subst, ap, refl, sym}
use Rattle.std.specs.Option.{option_map}
use Rattle.std.proofs.lemmas.Result.{err_from_is_err_and}
use Rattle.sc_geom.specs.Drawn.{each, line_of, lines_only}
use Rattle.sc_geom.specs.Building.{IsPath, IsDraft}
use Rattle.sc_geom.proofs.Steps.{read_ok, read_more, each_stops, stopped_adding, line_long, one_line_more}
use Rattle.sc_geom.proofs.Depicting.{beside_nothing}
use Rattle.sc_geom.proofs.coordinates.add_lines.Goals as goal

pub loop-element-init : goal.loop-element-init
loop-element-init c = λ s is. ([], refl, subst (IsDraft c.reserve_lines.new.self) (sym (beside_nothing s)) (c.in_ok-reserve_lines.ensures s is))

pub returns-in_err-read_line : goal.returns-in_err-read_line
returns-in_err-read_line c = λ s is.
    let p = err_from_is_err_and c.from_residual-in_err-read_line.result c.from_residual-in_err-read_line.ensures.1 in
    rw (p.1, p.2) (stopped_adding IsPath c.in_err-read_line.field-0.0 (line_of c.element-item.result) (option_map lines_only (each line_of c.args.tree.now)) s _ c.in_err-read_line.ensures
    (λ none. ap (option_map lines_only) (each_stops line_of c.args.tree.now c.in-Some.elements.now c.loop-element.element-index c.element-item.result c.in-Some.ensures.elements c.loop-element-test.true c.element-item.is none)))

pub loop-element-preserved : goal.loop-element-preserved
loop-element-preserved c = λ s is.
    let before = c.loop-element.invariant s is in
    let read = read_ok IsPath c.in_ok-read_line.field-0 (line_of c.element-item.result) c.in_ok-read_line.ensures in (
      before.0 ++ read.0 ∷ [],
      read_more line_of c.in-Some.elements.now c.loop-element.element-index c.element-item.result before.0 read.0 c.loop-element-test.true c.element-item.is before.1 read.1,
      subst (IsDraft c.add_line.new.self) (one_line_more s before.0 read.0) (c.in_ok-add_line.ensures _ read.0 before.2 read.2 (line_long c.element-item.result read.0 read.1)),
    )
