use Rattle.std.proofs.Common.{◌∙◌, ap, sym, pos, ◌+◌, drop, get_or, Bool}
use Rattle.std.proofs.lemmas.List.Elements.{All-get_or}
use Rattle.sc_geom.specs.declared.point.Pt.{Pt}
use Rattle.sc_geom.specs.Point.{IsInWorld}
use Rattle.sc_cross.specs.Segment.{segments_from}
use Rattle.sc_cross.specs.Parts.{turned_over}
use Rattle.sc_cross.proofs.Counts.{turned_step}
use Rattle.sc_cross.proofs.area.turned_along.Goals as goal

pub turned_at-odd-requires-clause-edge : goal.turned_at-odd-requires-clause-edge
turned_at-odd-requires-clause-edge c =
    (c.loop-to.invariant.1, All-get_or IsInWorld c.args.rest.now c.loop-to.to-index (record { x = pos 0; y = pos 0 }) c.loop-to-test.true c.requires.rest)

pub loop-to-preserved : goal.loop-to-preserved
loop-to-preserved c =
    let nowhere : Pt = record { x = pos 0; y = pos 0 } in
    let rest = c.args.rest.now in
    let i = c.loop-to.to-index in
    let to = get_or rest i nowhere in (
      ap (λ (b : Bool). turned_over c.args.at b (segments_from to (drop (i + 1) rest))) c.turned_at-odd.ensures
          ∙ sym (turned_step c.args.at c.loop-to.odd c.loop-to.from rest i nowhere c.loop-to-test.true)
          ∙ c.loop-to.invariant.0,
      All-get_or IsInWorld rest i nowhere c.loop-to-test.true c.requires.rest,
    )
