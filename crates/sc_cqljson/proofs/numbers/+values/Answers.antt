use Rattle.sc_json.specs.declared.tree.Member.{out-Member}
use Rattle.sc_json.specs.Views.{values}
use Rattle.sc_cqljson.proofs.Counts.{list_values, object_values, one_more_capped, all_counted}
use Rattle.sc_cqljson.proofs.numbers.+values.Goals as goal

pub values_in-returns-in-List : goal.values_in-returns-in-List
values_in-returns-in-List t c =
    let below = rw c.as_slice.ensures at c.values_of.ensures in
    rw (c.in-List.is, list_values) (one_more_capped _ _ _ c.saturating_add.ensures below)

pub values_in-returns-in-Object : goal.values_in-returns-in-Object
values_in-returns-in-Object t c =
    let below = rw c.as_slice-in-Object.ensures at c.values_of_members.ensures in
    rw (c.in-Object.is, object_values) (one_more_capped _ _ _ c.saturating_add-in-Object.ensures below)

pub values_of-returns : goal.values_of-returns
values_of-returns t c = all_counted values c.args.trees.now c.loop-tree.tree-index c.loop-tree-test.false c.loop-tree.total c.loop-tree.invariant.0 c.loop-tree.invariant.1

pub values_of_members-returns : goal.values_of_members-returns
values_of_members-returns t c =
    all_counted (λ m. values (out-Member m).value) c.args.members.now c.loop-member.member-index c.loop-member-test.false c.loop-member.total c.loop-member.invariant.0 c.loop-member.invariant.1
