use Rattle.std.proofs.Common.{◌↔◌, Any, drop}
use Rattle.sc_geom.specs.Point.{IsInWorld}
use Rattle.sc_cross.specs.Segment.{Touches, segments_from}
use Rattle.sc_cross.proofs.touching.touches_along.Given as goal

abbrev pub invariant-loop-to : goal.invariant-loop-to
invariant-loop-to l =
    (Any (Touches l.segment) (segments_from l.from (drop l.to-index l.rest)) ↔ Any (Touches l.segment) (segments_from l.fn.first l.rest)) × IsInWorld l.from
