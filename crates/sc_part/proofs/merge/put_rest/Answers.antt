use Rattle.std.specs.Arc.{arc_value}
use Rattle.std.specs.declared.alloc.Global.{Global}
use Rattle.std.specs.declared.sync.Arc.{Arc}
use Rattle.std.proofs.Common.{◌∷◌, [], take, refl, append_assoc}
use Rattle.sc_item.specs.Feature.{Feature}
use Rattle.sc_part.specs.Entry.{ids_of}
use Rattle.sc_part.specs.Scan.{shared}
use Rattle.sc_part.proofs.Merging.{head_of, taken_of}
use Rattle.sc_part.proofs.Places.{extends_by, extends_trans, for_push}
use Rattle.sc_part.proofs.merge.put_rest.Goals as goal

pub loop-at-preserved : goal.loop-at-preserved
loop-at-preserved c =
    let a = c.index-come-at.result in
    let here = head_of arc_value c.args.come.now c.loop-at.at a c.loop-at-test.true c.index-come-at.is in
    let more = taken_of (λ (x : Arc Feature Global). (arc_value x).id) c.args.come.now c.loop-at.at a c.loop-at-test.true c.index-come-at.is in
    record {
      items = rw (c.in_ok-put_arrival.ensures.items, append_assoc (shared c.loop-at.out.items) (arc_value a ∷ [])) (rw here at c.loop-at.invariant.items);
      fresh = rw (c.in_ok-put_arrival.ensures.ids, c.in_ok-put_arrival.ensures.fresh, more) (for_push (ids_of c.loop-at.out.items) (take c.loop-at.at (ids_of c.args.come.now)) c.loop-at.fresh.items (arc_value a).id _ refl c.loop-at.invariant.fresh);
      grown = extends_trans _ _ _ c.loop-at.invariant.grown (extends_by _ _ _ c.in_ok-put_arrival.ensures.ids);
    }
