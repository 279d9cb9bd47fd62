use Rattle.std.proofs.Common.{to_z-of_z}
use Rattle.std.specs.BTreeMap.{get}
use Rattle.std.specs.Ordering.{int_cmp}
use Rattle.sc_catalog.proofs.Steps.{made_there}
use Rattle.sc_catalog.proofs.groups.add_departure.Goals as goal

pub unreachable-requires : goal.unreachable-requires
unreachable-requires c = made_there (get int_cmp c.args.groups.now c.args.key) (get int_cmp c.make_group.new.groups c.args.key) c.args.key (rw (to_z-of_z c.ranges.key) at (c.in_ok-make_group.ensures.some c.args.key)) (rw (to_z-of_z c.ranges.key) at c.in-None.ensures.value)
