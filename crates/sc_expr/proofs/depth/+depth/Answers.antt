use Rattle.sc_expr.specs.Measure.{depth}
use Rattle.sc_expr.proofs.Levels.{and_depth, or_depth, one_deeper_capped, all_deepest}
use Rattle.sc_expr.proofs.depth.+depth.Goals as goal

pub depth_of-returns-in-And : goal.depth_of-returns-in-And
depth_of-returns-in-And t c =
    let below = rw c.as_slice.ensures at c.deepest.ensures in
    rw (c.in-And.is, and_depth) (one_deeper_capped _ _ _ c.saturating_add.ensures below)

pub depth_of-returns-in-Or : goal.depth_of-returns-in-Or
depth_of-returns-in-Or t c =
    let below = rw c.as_slice-in-Or.ensures at c.deepest-in-Or.ensures in
    rw (c.in-Or.is, or_depth) (one_deeper_capped _ _ _ c.saturating_add-in-Or.ensures below)

pub deepest-returns : goal.deepest-returns
deepest-returns t c = all_deepest depth c.args.members.now c.loop-member.member-index c.loop-member-test.false c.loop-member.greatest c.loop-member.invariant.0 c.loop-member.invariant.1
