use Rattle.std.proofs.Common.{subst, sym}
use Rattle.std.specs.Prelude.{All}
use Rattle.sc_geom.specs.Point.{IsInWorld}
use Rattle.sc_geom.proofs.Smallest.{all_part}
use Rattle.sc_geom.proofs.extent.over_lists.Goals as goal

pub over_points-extent-requires : goal.over_points-extent-requires
over_points-extent-requires c = subst (All IsInWorld) (sym c.as_slice.ensures) (all_part IsInWorld c.args.lists.now c.loop-list.list-index c.list-item.result c.loop-list-test.true c.list-item.is c.requires)
