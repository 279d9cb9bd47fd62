use Rattle.std.proofs.Common.{◌≡◌, ◌≤◌, vec_len}
use Rattle.stacd.proofs.listeners.Given as goal

abbrev pub invariant-loop : goal.invariant-loop
invariant-loop l = (vec_len l.nets ≡ l.counter) × (l.counter ≤ l.workers) × (l.workers ≡ l.fn.workers)
