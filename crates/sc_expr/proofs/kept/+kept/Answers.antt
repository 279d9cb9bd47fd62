use Rattle.sc_expr.specs.Kept.{IsKept}
use Rattle.sc_expr.proofs.Every.{all_next, all_taken}
use Rattle.sc_expr.proofs.kept.+kept.Goals as goal

pub members_keep-loop-member-preserved : goal.members_keep-loop-member-preserved
members_keep-loop-member-preserved t c =
    all_next IsKept c.args.members.now c.loop-member.member-index _ c.loop-member-test.true c.member-item.is c.loop-member.invariant c.expr_keeps.ensures

pub members_keep-returns : goal.members_keep-returns
members_keep-returns t c = all_taken IsKept c.args.members.now c.loop-member.member-index c.loop-member-test.false c.loop-member.invariant
