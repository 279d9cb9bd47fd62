use Rattle.std.proofs.Common.{◌≡◌, ◌++◌, length, vec_len}
use Rattle.std.specs.Prelude.{vec_capacity}
use Rattle.std.specs.Vec.Iter.{into_iter_items}
use Rattle.bench_turn.specs.Runs.{AreBack}
use Rattle.bench_turn.proofs.run.unbind_all.Given as goal

abbrev pub invariant-loop-worker : goal.invariant-loop-worker
invariant-loop-worker l =
    record {
      split : l.fn.workers.items ≡ l.yielded ++ into_iter_items l.worker-iterator;
      back : AreBack l.yielded l.cards.items;
      count : vec_len l.cards ≡ length l.yielded;
      room : vec_capacity l.cards ≡ vec_capacity l.fn.cards;
    }
