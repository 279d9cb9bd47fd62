use Rattle.std.proofs.Common.{◌≡◌, ◌++◌, List, length, map, vec_len}
use Rattle.std.specs.Prelude.{vec_capacity}
use Rattle.std.specs.Vec.Iter.{into_iter_items}
use Rattle.sc_turn.specs.Passes.{desk_id}
use Rattle.sc_server.proofs.Seats.{AreNumbered}
use Rattle.sc_server.proofs.staff.seat_all.Given as goal

abbrev pub invariant-loop-card : goal.invariant-loop-card
invariant-loop-card l =
    record {
      split : l.fn.cards.items ≡ l.yielded ++ into_iter_items l.card-iterator;
      dealt : (done : List _) × (l.fn.notice_cards.items ≡ done ++ into_iter_items l.notice_cards) × (length done ≡ length l.yielded) × (map (λ s. s.notices) l.seats.items ≡ done);
      numbered : AreNumbered (desk_id l.desk) l.seats.items;
      count : vec_len l.seats ≡ length l.yielded;
      room : vec_capacity l.seats ≡ vec_capacity l.fn.seats;
    }
