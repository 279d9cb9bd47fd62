use Rattle.std.proofs.Common.{◌↔◌, IsTrue, true, List, All, Any, subst}
use Rattle.std.proofs.lemmas.List.Elements.{All-same}
use Rattle.sc_geom.specs.declared.point.Pt.{Pt}
use Rattle.sc_geom.specs.Point.{IsInWorld}
use Rattle.sc_geom.specs.Shapes.{positions_of}
use Rattle.sc_cross.specs.Area.{IsInside}
use Rattle.sc_cross.specs.Meets.{SomePair}
use Rattle.sc_cross.specs.Parts.{IsRingIn}
use Rattle.sc_cross.proofs.Geometries.{points_all, lines_all, areas_all, areas_in, of_points, of_lines, of_rings}
use Rattle.sc_cross.proofs.entering.enters.Goals as goal

pub path_enters-requires-clause-path : goal.path_enters-requires-clause-path
path_enters-requires-clause-path c =
    All-same IsInWorld c.points.result.now c.args.a.now.points c.points.ensures.points (points_all IsInWorld c.args.a.now c.points.ensures.kept.in_world)

pub path_enters-requires-clause-areas : goal.path_enters-requires-clause-areas
path_enters-requires-clause-areas c =
    All-same (All (IsRingIn c.args.extent.now)) c.areas-others.result.now c.args.b.now.areas c.areas-others.ensures.areas (areas_in c.args.extent.now c.args.b.now c.areas-others.ensures.kept c.requires)

pub returns-then-path_enters : goal.returns-then-path_enters
returns-then-path_enters c =
    subst (λ (l : List (List (List Pt))). IsTrue true ↔ SomePair IsInside (positions_of c.args.a.now) l) c.areas-others.ensures.areas
    (of_points (λ p. Any (IsInside p) c.areas-others.result.now) c.args.a.now c.points.result.now c.path_enters.result c.points.ensures.points c.path_enters.ensures c.if-path_enters.true)

pub paths_enter-requires-clause-paths : goal.paths_enter-requires-clause-paths
paths_enter-requires-clause-paths c =
    All-same (All IsInWorld) c.lines.result.now c.args.a.now.lines c.lines.ensures.lines (lines_all IsInWorld c.args.a.now c.lines.ensures.kept.in_world)

pub paths_enter-requires-clause-areas : goal.paths_enter-requires-clause-areas
paths_enter-requires-clause-areas c =
    All-same (All (IsRingIn c.args.extent.now)) c.areas-others.result.now c.args.b.now.areas c.areas-others.ensures.areas (areas_in c.args.extent.now c.args.b.now c.areas-others.ensures.kept c.requires)

pub returns-then-paths_enter : goal.returns-then-paths_enter
returns-then-paths_enter c =
    subst (λ (l : List (List (List Pt))). IsTrue true ↔ SomePair IsInside (positions_of c.args.a.now) l) c.areas-others.ensures.areas
    (of_lines (λ p. Any (IsInside p) c.areas-others.result.now) c.args.a.now c.lines.result.now c.paths_enter.result c.lines.ensures.lines c.paths_enter.ensures c.if-paths_enter.true)

pub rings_enter-requires-clause-rings : goal.rings_enter-requires-clause-rings
rings_enter-requires-clause-rings c =
    All-same (All (All IsInWorld)) c.areas.result.now c.args.a.now.areas c.areas.ensures.areas (areas_all IsInWorld c.args.a.now c.areas.ensures.kept.in_world)

pub rings_enter-requires-clause-areas : goal.rings_enter-requires-clause-areas
rings_enter-requires-clause-areas c =
    All-same (All (IsRingIn c.args.extent.now)) c.areas-others.result.now c.args.b.now.areas c.areas-others.ensures.areas (areas_in c.args.extent.now c.args.b.now c.areas-others.ensures.kept c.requires)

pub returns : goal.returns
returns c =
    subst (λ (l : List (List (List Pt))). IsTrue c.rings_enter.result ↔ SomePair IsInside (positions_of c.args.a.now) l) c.areas-others.ensures.areas
    (of_rings (λ p. Any (IsInside p) c.areas-others.result.now) c.args.a.now c.points.result.now c.lines.result.now c.areas.result.now
    c.path_enters.result c.paths_enter.result c.rings_enter.result c.points.ensures.points c.lines.ensures.lines c.areas.ensures.areas
    c.path_enters.ensures c.if-path_enters.false c.paths_enter.ensures c.if-paths_enter.false c.rings_enter.ensures)
