use Rattle.std.proofs.Common.{◌≡◌, ◌≤◌, ◌++◌, drop, length, map}
use Rattle.sc_cqlgrammar.specs.Machine.{item_of}
use Rattle.sc_cqlgrammar.proofs.stack.put_all.Given as goal

abbrev pub invariant-loop-at : goal.invariant-loop-at
invariant-loop-at l = (l.at ≤ length l.items) × (l.stack ≡ map item_of (drop l.at l.items) ++ l.initial.stack)

abbrev pub decreases-loop-at : goal.decreases-loop-at
decreases-loop-at l = l.at
