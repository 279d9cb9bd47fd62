use Rattle.std.proofs.Common.{◌≡◌, ◌+◌, ◌++◌, length, map, vec_len}
use Rattle.std.specs.Prelude.{vec_capacity}
use Rattle.std.specs.Vec.Iter.{into_iter_items}
use Rattle.sc_server.proofs.staff.employ.Given as goal

abbrev pub invariant-loop-net : goal.invariant-loop-net
invariant-loop-net g l =
    record {
      split : l.fn.nets.items ≡ l.yielded ++ into_iter_items l.net-iterator;
      given : l.fn.seats.items ≡ map (λ w. w.seat) l.workers.items ++ into_iter_items l.seats;
      nets_are : map (λ w. w.net) l.workers.items ≡ l.yielded;
      left : length (into_iter_items l.seats) + length l.yielded ≡ vec_len l.fn.seats;
      count : vec_len l.workers ≡ length l.yielded;
      room : vec_capacity l.workers ≡ vec_capacity l.fn.workers;
    }

abbrev pub invariant-loop-given : goal.invariant-loop-given
invariant-loop-given g l =
    record {
      given : l.fn.seats.items ≡ map (λ w. w.seat) l.workers.items ++ (l.tighteners.items ++ into_iter_items l.seats);
      nets_are : map (λ w. w.net) l.workers.items ≡ l.fn.nets.items;
      left : length (into_iter_items l.seats) + l.given ≡ l.fn.count + 1;
      count : vec_len l.tighteners ≡ l.given;
      room : vec_capacity l.tighteners ≡ vec_capacity l.fn.tighteners;
    }
