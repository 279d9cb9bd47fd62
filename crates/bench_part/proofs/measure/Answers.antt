use Rattle.sc_part.specs.Scan.{shared}
use Rattle.bench_part.proofs.Lists.{first_apart, then_apart}
use Rattle.bench_part.proofs.measure.Goals as goal

pub with_changes-requires-clause-apart : goal.with_changes-requires-clause-apart
with_changes-requires-clause-apart c = rw c.empty.ensures (first_apart (shared c.args.old.now) (shared c.args.come.now) c.requires.apart)

pub with_changes-requires-2-clause-apart : goal.with_changes-requires-2-clause-apart
with_changes-requires-2-clause-apart c =
    let scan = rw c.empty.ensures at c.in_ok-base.ensures.scan in
    then_apart c.apart_in_any_order.ensures (shared c.args.old.now) (shared c.args.come.now) c.in_ok-base.base.items scan.same c.requires.apart
