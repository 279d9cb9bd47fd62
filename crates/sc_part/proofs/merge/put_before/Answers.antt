use Rattle.std.specs.Arc.{arc_value}
use Rattle.std.specs.declared.alloc.Global.{Global}
use Rattle.std.specs.declared.sync.Arc.{Arc}
use Rattle.std.proofs.Common.{◌∷◌, [], ◌+◌, take, drop, refl, append_assoc}
use Rattle.sc_item.specs.Feature.{Feature}
use Rattle.sc_part.specs.Entry.{ids_of}
use Rattle.sc_part.specs.Scan.{scan_order, shared}
use Rattle.sc_part.proofs.Merging.{head_of, taken_of, up-drop}
use Rattle.sc_part.proofs.Places.{extends_by, extends_trans, for_push}
use Rattle.sc_part.proofs.Scanning.{scan_total}
use Rattle.sc_part.proofs.Sorting.{all_above, first_comes}
use Rattle.sc_part.proofs.merge.put_before.Goals as goal

pub returns-then-is_after-clause-above : goal.returns-then-is_after-clause-above
returns-then-is_after-clause-above c =
    let a = c.index-come-at.result in
    let here = head_of arc_value c.args.come.now c.loop-at.at a c.loop-at-test.true c.index-come-at.is in
    let up = up-drop c.loop-at.at (shared c.args.come.now) c.requires.up in
    let h = rw (c.is_after.ensures, c.deref.ensures) at c.if-is_after.true in
    rw here (all_above scan_order scan_total (arc_value a) c.args.item.now _ (rw here at up) h)

pub loop-at-preserved : goal.loop-at-preserved
loop-at-preserved c =
    let a = c.index-come-at.result in
    let here = head_of arc_value c.args.come.now c.loop-at.at a c.loop-at-test.true c.index-come-at.is in
    let up = up-drop c.loop-at.at (shared c.args.come.now) c.requires.up in
    let h = rw (c.is_after.ensures, c.deref.ensures) at c.if-is_after.false in
    let more = taken_of (λ (x : Arc Feature Global). (arc_value x).id) c.args.come.now c.loop-at.at a c.loop-at-test.true c.index-come-at.is in
    record {
      merges = λ rest all.
          let first = first_comes scan_order scan_total (arc_value a) c.args.item.now (drop (c.loop-at.at + 1) (shared c.args.come.now)) rest (rw here at up) h all in
          let before = rw (here, first) at (c.loop-at.invariant.merges rest all) in
          rw (c.in_ok-put_arrival.ensures.items, append_assoc (shared c.loop-at.out.items) (arc_value a ∷ [])) before;
      fresh = rw (c.in_ok-put_arrival.ensures.ids, c.in_ok-put_arrival.ensures.fresh, more) (for_push (ids_of c.loop-at.out.items) (take c.loop-at.at (ids_of c.args.come.now)) c.loop-at.fresh.items (arc_value a).id _ refl c.loop-at.invariant.fresh);
      grown = extends_trans _ _ _ c.loop-at.invariant.grown (extends_by _ _ _ c.in_ok-put_arrival.ensures.ids);
    }
