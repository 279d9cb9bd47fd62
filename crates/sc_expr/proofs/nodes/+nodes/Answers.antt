use Rattle.sc_expr.specs.Measure.{nodes}
use Rattle.sc_expr.proofs.Levels.{and_nodes, or_nodes, among_nodes, one_more_capped, both_capped, all_counted}
use Rattle.sc_expr.proofs.nodes.+nodes.Goals as goal

pub nodes_of-returns-in-And : goal.nodes_of-returns-in-And
nodes_of-returns-in-And t c =
    let below = rw c.as_slice.ensures at c.nodes_of_all.ensures in
    rw (c.in-And.is, and_nodes) (one_more_capped _ _ _ c.saturating_add.ensures below)

pub nodes_of-returns-in-Or : goal.nodes_of-returns-in-Or
nodes_of-returns-in-Or t c =
    let below = rw c.as_slice-in-Or.ensures at c.nodes_of_all-in-Or.ensures in
    rw (c.in-Or.is, or_nodes) (one_more_capped _ _ _ c.saturating_add-in-Or.ensures below)

pub nodes_of-returns-in-Among : goal.nodes_of-returns-in-Among
nodes_of-returns-in-Among t c =
    let listed = rw c.as_slice-in-Among.ensures at c.nodes_of_scalars-listed.ensures in
    let below = both_capped _ _ _ _ _ c.saturating_add-in-Among.ensures listed c.nodes_of_scalar-in-Among.ensures in
    rw (c.in-Among.is, among_nodes) (one_more_capped _ _ _ c.saturating_add-in-Among-2.ensures below)

pub nodes_of_all-returns : goal.nodes_of_all-returns
nodes_of_all-returns t c = all_counted nodes c.args.members.now c.loop-member.member-index c.loop-member-test.false c.loop-member.total c.loop-member.invariant.0 c.loop-member.invariant.1
