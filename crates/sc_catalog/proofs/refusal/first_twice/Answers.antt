use Rattle.std.proofs.Common.{ap, sym, ◌∙◌}
use Rattle.std.specs.BTreeSet.{contains}
use Rattle.sc_base.specs.Text.{text_order}
use Rattle.sc_catalog.proofs.Twice.{not_false, not_true, seen_more, twice_found, twice_nowhere, twice_passed}
use Rattle.sc_catalog.proofs.refusal.first_twice.Goals as goal

pub returns-then-not-branch : goal.returns-then-not-branch
returns-then-not-branch c =
    let key = c.as_str.ensures ∙ (c.id.ensures ∙ ap (λ f. f.id) c.deref.ensures) in
    let again = c.id-then-not-branch.ensures ∙ ap (λ f. f.id) c.deref-then-not-branch.ensures in
    let was = not_false _ _ c.in_ok-insert.ensures.added c.if-not-branch.true in
    let there = sym (c.loop-item.invariant.seen c.as_str.result) ∙ was in
    rw (← again) at (twice_found c.args.items.now c.loop-item.item-index c.item-item.result _ c.loop-item-test.true c.item-item.is (rw key at there) c.loop-item.invariant.rest)

pub loop-item-preserved : goal.loop-item-preserved
loop-item-preserved c =
    let key = c.as_str.ensures ∙ (c.id.ensures ∙ ap (λ f. f.id) c.deref.ensures) in
    let was = not_true _ _ c.in_ok-insert.ensures.added c.if-not-branch.false in
    let there = sym (c.loop-item.invariant.seen c.as_str.result) ∙ was in
    record {
      seen = seen_more (λ q. q.now) c.args.items.now c.loop-item.item-index c.item-item.result (contains (λ x y. text_order x.now y.now) c.loop-item.seen) (contains (λ x y. text_order x.now y.now) c.insert.new.self) c.as_str.result.now
          c.loop-item-test.true c.item-item.is key c.loop-item.invariant.seen c.in_ok-insert.ensures.updates.0;
      rest = twice_passed c.args.items.now c.loop-item.item-index c.item-item.result _ c.loop-item-test.true c.item-item.is (rw key at there) c.loop-item.invariant.rest;
    }

pub returns : goal.returns
returns c = twice_nowhere c.args.items.now c.loop-item.item-index _ c.loop-item-test.false c.loop-item.invariant.rest
