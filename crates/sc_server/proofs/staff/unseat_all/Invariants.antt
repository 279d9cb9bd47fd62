use Rattle.std.proofs.Common.{◌≡◌, ◌++◌, length, vec_len}
use Rattle.std.specs.Prelude.{vec_capacity}
use Rattle.std.specs.Vec.Iter.{into_iter_items}
use Rattle.sc_server.specs.Seats.{AreCardsOf}
use Rattle.sc_server.proofs.staff.unseat_all.Given as goal

abbrev pub invariant-loop-seat : goal.invariant-loop-seat
invariant-loop-seat l =
    record {
      split : l.fn.seats.items ≡ l.yielded ++ into_iter_items l.seat-iterator;
      back : AreCardsOf l.yielded l.cards.items l.notice_cards.items;
      count : vec_len l.cards ≡ length l.yielded;
      notices_count : vec_len l.notice_cards ≡ length l.yielded;
      room : vec_capacity l.cards ≡ vec_capacity l.fn.cards;
      notices_room : vec_capacity l.notice_cards ≡ vec_capacity l.fn.notice_cards;
    }
