use Rattle.std.proofs.Common.{◌≡◌}
use Rattle.bench_turn.specs.Workers.{worker_desk, worker_number}
use Rattle.bench_turn.proofs.worker.Worker.work.Given as goal

abbrev pub invariant-loop : goal.invariant-loop
invariant-loop g l = (worker_desk l.self ≡ worker_desk l.fn.self) × (worker_number l.self ≡ worker_number l.fn.self)
