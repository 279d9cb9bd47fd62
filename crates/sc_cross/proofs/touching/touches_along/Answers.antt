use Rattle.std.proofs.Common.{pos, refl, Any}
use Rattle.std.proofs.lemmas.List.Elements.{All-get_or}
use Rattle.sc_geom.specs.declared.point.Pt.{Pt}
use Rattle.sc_geom.specs.Point.{IsInWorld}
use Rattle.sc_cross.specs.Segment.{Touches, segments_from}
use Rattle.sc_cross.proofs.Verdicts.{no_of, yes_of}
use Rattle.sc_cross.proofs.Walks.{walk_on, walk_found}
use Rattle.sc_cross.proofs.touching.touches_along.Goals as goal

pub loop-to-preserved : goal.loop-to-preserved
loop-to-preserved c =
    let nowhere : Pt = record { x = pos 0; y = pos 0 } in
    let rest = c.args.rest.now in
    let i = c.loop-to.to-index in (
      walk_on (Touches c.args.segment) (Any (Touches c.args.segment) (segments_from c.args.first rest)) c.loop-to.from rest i nowhere c.loop-to-test.true
          (no_of c.touches.result c.touches.ensures c.if-touches.false) c.loop-to.invariant.0,
      All-get_or IsInWorld rest i nowhere c.loop-to-test.true c.requires.rest,
    )

pub returns-then-touches : goal.returns-then-touches
returns-then-touches c =
    let nowhere : Pt = record { x = pos 0; y = pos 0 } in
    let rest = c.args.rest.now in (
      λ yes. walk_found (Touches c.args.segment) (Any (Touches c.args.segment) (segments_from c.args.first rest)) c.loop-to.from rest c.loop-to.to-index nowhere c.loop-to-test.true
          (yes_of c.touches.result c.touches.ensures c.if-touches.true) c.loop-to.invariant.0,
      λ any. refl,
    )
