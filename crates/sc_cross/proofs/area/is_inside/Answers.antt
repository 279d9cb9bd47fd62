use Rattle.std.proofs.Common.{◌≡◌, ◌∙◌, ap, sym, ◌+◌, drop, List, Bool, false}
use Rattle.sc_geom.specs.declared.point.Pt.{Pt}
use Rattle.sc_cross.specs.Segment.{segments_of}
use Rattle.sc_cross.specs.Area.{edges_of}
use Rattle.sc_cross.specs.Parts.{turned_over}
use Rattle.sc_cross.proofs.Counts.{turned_ring, turned_end, inside}
use Rattle.sc_cross.proofs.area.is_inside.Goals as goal

pub loop-ring-preserved : goal.loop-ring-preserved
loop-ring-preserved c =
    let rings = c.args.rings.now in
    let i = c.loop-ring.ring-index in
    ap (λ (b : Bool). turned_over c.args.at b (edges_of (drop (i + 1) rings)))
    (c.turned_over-odd.ensures ∙ ap (λ (ring : List Pt). turned_over c.args.at c.loop-ring.odd (segments_of ring)) c.as_slice.ensures)
    ∙ sym (turned_ring c.args.at c.loop-ring.odd c.ring-item.result rings i c.loop-ring-test.true c.ring-item.is)
    ∙ c.loop-ring.invariant

pub returns : goal.returns
returns c =
    let whole : c.loop-ring.odd ≡ turned_over c.args.at false (edges_of c.args.rings.now) =
    sym (turned_end c.args.at c.loop-ring.odd c.args.rings.now c.loop-ring.ring-index c.loop-ring-test.false) ∙ c.loop-ring.invariant in
    let test = inside c.args.at c.args.rings.now in
    (λ yes. test.0 (sym whole ∙ yes), λ in_area. whole ∙ test.1 in_area)
