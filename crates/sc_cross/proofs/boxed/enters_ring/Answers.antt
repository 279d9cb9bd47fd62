use Rattle.std.proofs.Common.{All}
use Rattle.std.proofs.lemmas.List.Elements.{All-same}
use Rattle.sc_geom.specs.Point.{IsInWorld}
use Rattle.sc_cross.specs.Parts.{IsInRing}
use Rattle.sc_cross.proofs.Geometries.{points_all, lines_all, areas_all, of_points, of_lines, of_rings}
use Rattle.sc_cross.proofs.boxed.enters_ring.Goals as goal

pub path_enters_ring-requires-clause-path : goal.path_enters_ring-requires-clause-path
path_enters_ring-requires-clause-path c =
    All-same IsInWorld c.points.result.now c.args.geom.now.points c.points.ensures.points (points_all IsInWorld c.args.geom.now c.points.ensures.kept.in_world)

pub returns-then-path_enters_ring : goal.returns-then-path_enters_ring
returns-then-path_enters_ring c =
    of_points (IsInRing c.args.ring.now) c.args.geom.now c.points.result.now c.path_enters_ring.result c.points.ensures.points c.path_enters_ring.ensures c.if-path_enters_ring.true

pub paths_enter_ring-requires-clause-paths : goal.paths_enter_ring-requires-clause-paths
paths_enter_ring-requires-clause-paths c =
    All-same (All IsInWorld) c.lines.result.now c.args.geom.now.lines c.lines.ensures.lines (lines_all IsInWorld c.args.geom.now c.lines.ensures.kept.in_world)

pub returns-then-paths_enter_ring : goal.returns-then-paths_enter_ring
returns-then-paths_enter_ring c =
    of_lines (IsInRing c.args.ring.now) c.args.geom.now c.lines.result.now c.paths_enter_ring.result c.lines.ensures.lines c.paths_enter_ring.ensures c.if-paths_enter_ring.true

pub areas_enter_ring-requires-clause-areas : goal.areas_enter_ring-requires-clause-areas
areas_enter_ring-requires-clause-areas c =
    All-same (All (All IsInWorld)) c.areas.result.now c.args.geom.now.areas c.areas.ensures.areas (areas_all IsInWorld c.args.geom.now c.areas.ensures.kept.in_world)

pub returns : goal.returns
returns c =
    of_rings (IsInRing c.args.ring.now) c.args.geom.now c.points.result.now c.lines.result.now c.areas.result.now
    c.path_enters_ring.result c.paths_enter_ring.result c.areas_enter_ring.result c.points.ensures.points c.lines.ensures.lines c.areas.ensures.areas
    c.path_enters_ring.ensures c.if-path_enters_ring.false c.paths_enter_ring.ensures c.if-paths_enter_ring.false c.areas_enter_ring.ensures
