use Rattle.std.proofs.Common.{◌↔◌, Any, drop}
use Rattle.sc_geom.specs.Point.{IsInWorld}
use Rattle.sc_cross.specs.Segment.{Touches, segments_from}
use Rattle.sc_cross.specs.Meets.{segments_in}
use Rattle.sc_cross.proofs.touching.one_touches_along.Given as goal

abbrev pub invariant-loop-to : goal.invariant-loop-to
invariant-loop-to l =
    (Any (λ s. Any (Touches s) (segments_in l.other)) (segments_from l.from (drop l.to-index l.rest)) ↔ Any (λ s. Any (Touches s) (segments_in l.other)) (segments_from l.fn.first l.rest)) × IsInWorld l.from
