use Rattle.std.proofs.Common.{◌-◌, ◌≤◌, length}
use Rattle.sc_cqlread.specs.Reading.{Reading}
use Rattle.sc_cqlread.specs.Kept.{Holds}
use Rattle.sc_cqlread.proofs.Course.{SoFar}
use Rattle.sc_cqlread.proofs.taking.take_all.Given as goal

abbrev pub invariant-loop-alloc : goal.invariant-loop-alloc
invariant-loop-alloc l = record {
  within : l.at ≤ length l.text;
  low : l.level ≤ 64;
  so_far : (made : Reading) × Holds l.reading made × SoFar l.text l.is_whole l.at l.level l.stack made;
}

abbrev pub decreases-loop-alloc : goal.decreases-loop-alloc
decreases-loop-alloc l = length l.text - l.at
