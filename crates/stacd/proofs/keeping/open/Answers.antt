use Rattle.std.proofs.Common.{rules, refl}
use Rattle.stacd.proofs.keeping.open.Goals as goal
use Rattle.stacd.proofs.keeping.open.Goals.{in-DiskFault, in-BadRecord, in-OutOfMemory}

pub returns-after-fault-clause-err : goal.returns-after-fault-clause-err
returns-after-fault-clause-err g c = elim c.match-fault.branch [
  | in-DiskFault w ↦ rw w.result-is (record { before = c.in-Some.held; after = c.in-Err.field-0.disk; was = search rules; is = refl; rose = c.in-Err.ensures.cause (search rules) })
  | in-BadRecord w ↦ rw w.result-is (record { before = c.in-Some.held; after = c.in-Err.field-0.disk; was = search rules; is = refl; bad = c.in-Err.ensures.bad _ (search rules) })
  | in-OutOfMemory w ↦ rw w.result-is tt
]
