use Rattle.std.proofs.Common.{arith}
use Rattle.stacd.proofs.Judging.{counted, judged_start, judged_more, judged_end, bad_if_no_item, bad_if_repeated, bad_if_many, bad_if_long, named_new, named_old}
use Rattle.stacd.proofs.lines.judge.Goals as goal

pub reading-init : goal.reading-init
reading-init c = rw c.as_slice-rest.ensures (judged_start _ _ _ _ _ c.new-names.ensures c.new-page.ensures)

pub overflow_add-number : goal.overflow_add-number
overflow_add-number c = let few = counted _ _ _ _ _ _ _ c.reading.invariant in omega arith

pub returns-then-count-ge-MOST_LINES : goal.returns-then-count-ge-MOST_LINES
returns-then-count-ge-MOST_LINES c =
    let n = c.in-Some.ensures in
    bad_if_many _ _ _ _ _ _ _ _ _ c.reading.invariant n.0 n.1 _ (omega arith) (omega arith)

pub returns-then-len-after-gt-MOST_BYTES : goal.returns-then-len-after-gt-MOST_BYTES
returns-then-len-after-gt-MOST_BYTES c =
    let n = c.in-Some.ensures in
    bad_if_long _ _ _ _ _ _ _ _ _ c.reading.invariant n.0 n.1 _ (omega arith) (omega arith)

pub returns-in_default-2 : goal.returns-in_default-2
returns-in_default-2 c =
    let n = c.in-Some.ensures in
    bad_if_no_item _ _ _ _ _ _ _ _ _ c.reading.invariant n.0 n.1 _ (omega arith) (rw (c.in_default-2.is, c.line_without_feed.ensures) at c.in_ok-item.ensures)

pub returns-then-not-new : goal.returns-then-not-new
returns-then-not-new c =
    let n = c.in-Some.ensures in
    let j = c.reading.invariant in
    let spelled = rw (c.in-Some-2.is, c.line_without_feed.ensures) at c.in_ok-item.ensures in
    bad_if_repeated _ _ _ _ _ _ _ _ _ j n.0 n.1 _ (omega arith) c.in-Some-2.item spelled (named_old _ _ _ c.if-not-new.true (c.in_ok-new.ensures j.items j.named))

pub reading-preserved : goal.reading-preserved
reading-preserved c =
    let n = c.in-Some.ensures in
    let j = c.reading.invariant in
    let spelled = rw (c.in-Some-2.is, c.line_without_feed.ensures) at c.in_ok-item.ensures in
    let named = named_new _ _ _ c.if-not-new.false (c.in_ok-new.ensures j.items j.named) in
    judged_more _ _ _ _ _ _ _ _ _ j n.0 n.1 c.in-Some-2.item _ _ spelled (omega arith) (omega arith) named (c.in_ok-add.ensures _ j.items named.apart j.paged)

pub returns : goal.returns
returns c = judged_end _ _ _ _ _ _ _ _ c.reading.invariant c.in_default.ensures c.in_ok-into_items.ensures
