use Rattle.std.proofs.Common.{◌≡◌, ◌++◌, length, vec_len}
use Rattle.std.specs.Prelude.{vec_capacity}
use Rattle.std.specs.Vec.Iter.{into_iter_items}
use Rattle.sc_turn.specs.Passes.{desk_id}
use Rattle.bench_turn.specs.Runs.{AreBound}
use Rattle.bench_turn.proofs.run.bind_all.Given as goal

abbrev pub invariant-loop-card : goal.invariant-loop-card
invariant-loop-card l =
    record {
      split : l.fn.cards.items ≡ l.yielded ++ into_iter_items l.card-iterator;
      bound : AreBound (desk_id l.desk) (length l.yielded) l.workers.items;
      count : vec_len l.workers ≡ length l.yielded;
      room : vec_capacity l.workers ≡ vec_capacity l.fn.workers;
    }
