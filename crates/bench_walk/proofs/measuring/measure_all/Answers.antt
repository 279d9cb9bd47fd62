use Rattle.std.proofs.Common.{ap, subst, sym, ◌∙◌}
use Rattle.sc_history.proofs.Covering.{snapshot_apart}
use Rattle.sc_item.specs.Names.{AreApart}
use Rattle.sc_page.specs.Search.{shared}
use Rattle.bench_walk.proofs.measuring.measure_all.Goals as goal

pub measure-requires : goal.measure-requires
measure-requires g c = subst AreApart (sym (ap shared c.as_slice.ensures ∙ c.in_ok-items.ensures.items)) (snapshot_apart c.args.snapshot.now c.revision.ensures.stood)
