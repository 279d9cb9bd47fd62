use Rattle.std.proofs.Common.{◌≡◌, ◌++◌, ◌≤◌, [], List, Option, length, refl, ap, subst, sym, ◌∙◌, arith}
use Rattle.std.specs.Prelude.{All}
use Rattle.sc_geom.specs.declared.point.Pt.{Pt}
use Rattle.sc_geom.specs.Point.{IsInWorld}
use Rattle.sc_geom.specs.Shapes.{joined, positions_of}
use Rattle.sc_geom.specs.Rectangle.{Rectangle, Encloses, IsSmallest}
use Rattle.sc_geom.proofs.Smallest.{all_front, all_back, enclosed}
use Rattle.sc_geom.proofs.extent.box_of.Goals as goal

pub over_lists-extent-requires : goal.over_lists-extent-requires
over_lists-extent-requires c =
    let g = c.args.geom.now in
    subst (λ (l : List (List Pt)). All IsInWorld (joined l)) (sym c.lines.ensures.lines)
    (all_back IsInWorld g.points (joined g.lines) (all_front IsInWorld (g.points ++ joined g.lines) (joined (joined g.areas)) c.lines.ensures.kept.in_world))

pub over_areas-requires : goal.over_areas-requires
over_areas-requires c =
    let g = c.args.geom.now in
    subst (λ (l : List (List (List Pt))). All IsInWorld (joined (joined l))) (sym c.areas.ensures.areas)
    (all_back IsInWorld (g.points ++ joined g.lines) (joined (joined g.areas)) c.areas.ensures.kept.in_world)

pub unreachable-requires : goal.unreachable-requires
unreachable-requires c =
    let g = c.args.geom.now in
    let positions = c.points.result.now ++ joined c.lines.result.now ++ joined (joined c.areas.result.now) in
    let whole = enclosed c.points.result.now (joined c.lines.result.now) (joined (joined c.areas.result.now)) _ _ _ c.over_points-extent.ensures c.over_lists-extent.ensures c.over_areas.ensures in
    let empty : positions ≡ [] = subst (λ (o : Option Rectangle). Encloses o positions) c.in-None.is whole in
    let same : positions ≡ positions_of g = rw (c.points.ensures.points, c.lines.ensures.lines, c.areas.ensures.areas) refl in
    let none : length (positions_of g) ≡ 0 = ap length (sym same ∙ empty) in
    let some : 1 ≤ length (positions_of g) = c.areas.ensures.kept.some in
    absurd (omega (arith, none, some))

pub returns : goal.returns
returns c =
    let g = c.args.geom.now in
    let positions = c.points.result.now ++ joined c.lines.result.now ++ joined (joined c.areas.result.now) in
    let whole = enclosed c.points.result.now (joined c.lines.result.now) (joined (joined c.areas.result.now)) _ _ _ c.over_points-extent.ensures c.over_lists-extent.ensures c.over_areas.ensures in
    let same : positions ≡ positions_of g = rw (c.points.ensures.points, c.lines.ensures.lines, c.areas.ensures.areas) refl in
    subst (IsSmallest c.in-Some.extent) same (subst (λ (o : Option Rectangle). Encloses o positions) c.in-Some.is whole)
