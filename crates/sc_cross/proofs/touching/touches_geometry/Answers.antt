use Rattle.std.proofs.Common.{All}
use Rattle.std.proofs.lemmas.List.Elements.{All-same}
use Rattle.sc_geom.specs.Point.{IsInWorld}
use Rattle.sc_cross.specs.Segment.{Touches}
use Rattle.sc_cross.specs.Parts.{TouchesPath}
use Rattle.sc_cross.proofs.Geometries.{lines_all, areas_all, on_lines, on_rings}
use Rattle.sc_cross.proofs.touching.touches_geometry.Goals as goal

pub touches_paths-requires-clause-paths : goal.touches_paths-requires-clause-paths
touches_paths-requires-clause-paths c =
    All-same (All IsInWorld) c.lines.result.now c.args.other.now.lines c.lines.ensures.lines (lines_all IsInWorld c.args.other.now c.lines.ensures.kept.in_world)

pub returns-then-touches_paths : goal.returns-then-touches_paths
unfolding TouchesPath
returns-then-touches_paths c =
    on_lines (Touches c.args.segment) c.args.other.now c.lines.result.now c.touches_paths.result c.lines.ensures.lines c.touches_paths.ensures c.if-touches_paths.true

pub touches_areas-requires-clause-areas : goal.touches_areas-requires-clause-areas
touches_areas-requires-clause-areas c =
    All-same (All (All IsInWorld)) c.areas.result.now c.args.other.now.areas c.areas.ensures.areas (areas_all IsInWorld c.args.other.now c.areas.ensures.kept.in_world)

pub returns : goal.returns
unfolding TouchesPath
returns c =
    on_rings (Touches c.args.segment) c.args.other.now c.lines.result.now c.areas.result.now c.touches_paths.result c.touches_areas.result
    c.lines.ensures.lines c.areas.ensures.areas c.touches_paths.ensures c.if-touches_paths.false c.touches_areas.ensures
