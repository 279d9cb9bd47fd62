use Rattle.std.proofs.Common.{◌≡◌, [], vec_len}
use Rattle.std.specs.Prelude.{vec_capacity}
use Rattle.sc_turn.specs.Views.{maker}
use Rattle.sc_turn.specs.Passes.{desk_id, desk_first, AreNew}
use Rattle.sc_turn.proofs.making.make_cards.Given as goal

abbrev pub invariant-loop-i : goal.invariant-loop-i
invariant-loop-i g l =
    record {
      same : l.seat.table_id ≡ desk_id l.desk;
      maker_is : l.seat.me ≡ (maker l.i (g.V.Booked.history (desk_first l.desk)), []);
      new : AreNew (desk_id l.desk) (g.V.Booked.history (desk_first l.desk)) l.i l.cards.items;
      count : vec_len l.cards ≡ l.i;
      room : vec_capacity l.cards ≡ vec_capacity l.fn.cards;
    }
