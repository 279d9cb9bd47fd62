use Rattle.std.proofs.Common.{◌≡◌, drop}
use Rattle.sc_geom.specs.Point.{IsInWorld}
use Rattle.sc_cross.specs.Segment.{segments_from}
use Rattle.sc_cross.specs.Parts.{turned_over}
use Rattle.sc_cross.proofs.area.turned_along.Given as goal

abbrev pub invariant-loop-to : goal.invariant-loop-to
invariant-loop-to l =
    (turned_over l.at l.odd (segments_from l.from (drop l.to-index l.rest)) ≡ turned_over l.at l.fn.before (segments_from l.fn.first l.rest)) × IsInWorld l.from
