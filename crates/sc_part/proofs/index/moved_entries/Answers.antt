use Rattle.std.proofs.Common.{arith}
use Rattle.sc_part.proofs.Indexing.{entry_step}
use Rattle.sc_part.proofs.index.moved_entries.Goals as goal

pub loop-entry-preserved : goal.loop-entry-preserved
loop-entry-preserved c =
    rw c.in_ok-push_moved.ensures (entry_step c.args.marks.now c.args.moved.now c.args.index.now c.loop-entry.entry-index (record { digest = 0; place = 0 }) c.loop-entry.entries.items (omega arith) c.loop-entry.invariant)
