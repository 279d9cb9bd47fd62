use Rattle.std.proofs.Common.{All, Any}
use Rattle.std.proofs.lemmas.List.Elements.{All-same}
use Rattle.sc_geom.specs.Point.{IsInWorld}
use Rattle.sc_cross.specs.Segment.{Touches}
use Rattle.sc_cross.specs.Meets.{segments_in}
use Rattle.sc_cross.specs.Parts.{PathTouches}
use Rattle.sc_cross.proofs.Geometries.{lines_all, areas_all, on_lines, on_rings}
use Rattle.sc_cross.proofs.touching.segments_touch.Goals as goal

pub paths_touch-requires-clause-paths : goal.paths_touch-requires-clause-paths
paths_touch-requires-clause-paths c =
    All-same (All IsInWorld) c.lines.result.now c.args.a.now.lines c.lines.ensures.lines (lines_all IsInWorld c.args.a.now c.lines.ensures.kept.in_world)

pub returns-then-paths_touch : goal.returns-then-paths_touch
unfolding PathTouches
returns-then-paths_touch c =
    on_lines (λ s. Any (Touches s) (segments_in c.args.b.now)) c.args.a.now c.lines.result.now c.paths_touch.result c.lines.ensures.lines c.paths_touch.ensures c.if-paths_touch.true

pub areas_touch-requires-clause-areas : goal.areas_touch-requires-clause-areas
areas_touch-requires-clause-areas c =
    All-same (All (All IsInWorld)) c.areas.result.now c.args.a.now.areas c.areas.ensures.areas (areas_all IsInWorld c.args.a.now c.areas.ensures.kept.in_world)

pub returns : goal.returns
unfolding PathTouches
returns c =
    on_rings (λ s. Any (Touches s) (segments_in c.args.b.now)) c.args.a.now c.lines.result.now c.areas.result.now c.paths_touch.result c.areas_touch.result
    c.lines.ensures.lines c.areas.ensures.areas c.paths_touch.ensures c.if-paths_touch.false c.areas_touch.ensures
