use Rattle.std.proofs.Common.{◌≡◌, ◌+◌, ◌++◌, length, map, vec_len}
use Rattle.std.specs.Prelude.{vec_capacity}
use Rattle.std.specs.Vec.Iter.{into_iter_items}
use Rattle.sc_server.specs.Workers.{AreBack}
use Rattle.sc_server.proofs.staff.dismiss.Given as goal

abbrev pub invariant-loop-worker : goal.invariant-loop-worker
invariant-loop-worker g l =
    record {
      split : l.fn.staff.serving.workers.items ≡ l.yielded ++ into_iter_items l.worker-iterator;
      seats_are : l.seats.items ≡ map (λ w. w.seat) l.yielded;
      back : AreBack l.yielded l.nets.items l.failed;
      count : vec_len l.seats ≡ length l.yielded;
      nets_count : vec_len l.nets ≡ length l.yielded;
      room : vec_capacity l.seats ≡ vec_capacity l.fn.seats;
      nets_room : vec_capacity l.nets ≡ vec_capacity l.fn.nets;
    }

abbrev pub invariant-loop-seat : goal.invariant-loop-seat
invariant-loop-seat g l =
    record {
      split : l.fn.staff.tighteners.items ≡ l.yielded ++ into_iter_items l.seat-iterator;
      seats_are : l.seats.items ≡ map (λ w. w.seat) l.fn.staff.serving.workers.items ++ l.yielded;
      back : AreBack l.fn.staff.serving.workers.items l.nets.items l.failed;
      count : vec_len l.seats ≡ vec_len l.fn.staff.serving.workers + length l.yielded;
      room : vec_capacity l.seats ≡ vec_capacity l.fn.seats;
    }
