use Rattle.std.specs.Arc.{arc_value}
use Rattle.std.proofs.Common.{◌+◌, ◌∷◌, false, get_or, take, drop, refl, arith}
use Rattle.sc_part.specs.Entry.{ids_of}
use Rattle.sc_part.specs.Merged.{staying}
use Rattle.sc_part.specs.Scan.{shared}
use Rattle.sc_part.proofs.Merging.{drop_all, ends, from_here, head_of, id_here, mark_head, moved_more, moved_push, next, up-drop}
use Rattle.sc_part.proofs.Places.{extends_by, for_more}
use Rattle.sc_part.proofs.merge.merge.Goals as goal

pub loop-place-preserved : goal.loop-place-preserved
loop-place-preserved c =
    let at = c.loop-place.place in
    let a = c.index-items-place.result in
    let o = arc_value a in
    let marks = drop (at + 1) c.args.marks.now in
    let rest = drop (at + 1) (shared c.args.items.now) in
    let m = get_or c.args.marks.now at false in
    let here = head_of arc_value c.args.items.now at a c.loop-place-test.true c.index-items-place.is in
    let mark = mark_head c.args.marks.now at false (omega arith) in
    let up = rw here at (up-drop at (shared c.args.items.now) c.requires.items) in
    let inv = rw (mark, here) at c.loop-place.invariant.items in
    let far = rw c.deref.ensures at c.in_ok-at.ensures.above in
    let moved = (rw c.deref.ensures at c.in_ok-at.ensures.merges) (staying (m ∷ marks) (o ∷ rest)) (from_here o (m ∷ marks) rest up.0) in
    let longer = extends_by _ _ _ c.in_ok-put_next.ensures.ids in
    record {
      within = c.in_ok-at.ensures.within;
      items = rw c.in_ok-put_next.ensures.items (next m marks _ (shared c.loop-place.out.items) (shared c.put_before.new.out.items) (drop c.loop-place.at (shared c.args.come.now)) (drop c.in_ok-at.at (shared c.args.come.now)) rest o inv moved far up.0);
      moved = rw c.in_ok-put_next.ensures.moved (moved_push (ids_of c.args.items.now) (ids_of c.put_before.new.out.items) (ids_of c.put_next.new.out.items) c.args.marks.now c.loop-place.moved.items at o.id m refl
          (id_here c.args.items.now at a c.loop-place-test.true c.index-items-place.is) c.in_ok-put_next.ensures.ids longer
          (moved_more (ids_of c.args.items.now) (ids_of c.loop-place.out.items) (ids_of c.put_before.new.out.items) c.args.marks.now c.loop-place.moved.items at c.in_ok-at.ensures.grown c.loop-place.invariant.moved));
      fresh = for_more (ids_of c.put_before.new.out.items) (ids_of c.put_next.new.out.items) c.put_before.new.fresh.items (take c.in_ok-at.at (ids_of c.args.come.now)) longer c.in_ok-at.ensures.fresh;
    }

pub returns-clause-items : goal.returns-clause-items
returns-clause-items c =
    let come = shared c.args.come.now in
    rw c.in_ok-put_rest.ensures.items (ends (drop c.loop-place.place c.args.marks.now) _ (shared c.loop-place.out.items) (drop c.loop-place.at come) (drop c.loop-place.place (shared c.args.items.now))
    (drop_all arc_value c.args.items.now c.loop-place.place c.loop-place-test.false) (up-drop c.loop-place.at come c.requires.come) c.loop-place.invariant.items)
