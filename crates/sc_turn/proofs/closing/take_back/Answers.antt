use Rattle.std.proofs.Common.{◌≡◌, arith, ap, ◌∙◌}
use Rattle.std.specs.Vec.Iter.{into_iter_items}
use Rattle.sc_turn.specs.declared.pass.Card.{Card}
use Rattle.sc_turn.specs.Passes.{card_desk, desk_id}
use Rattle.sc_turn.proofs.Seats.{in_middle}
use Rattle.sc_turn.proofs.Cards.{joins}
use Rattle.sc_turn.proofs.closing.take_back.Goals as goal

pub join_seat-requires : goal.join_seat-requires
join_seat-requires g c =
    let words = c.args.desk.now.sized.0 in
    let here = c.loop-card.invariant in (
      here.same ∙ c.requires.seat.0,
      in_middle (λ (x : Card g.row.V.Denot g.row.V-Entry.Denot g.V.Booked). card_desk x ≡ desk_id c.args.desk.now) c.args.cards.items c.loop-card.yielded _ (into_iter_items c.loop-card.card-iterator) c.in-Some.card here.split c.in-Some.ensures.steps.0 c.requires.of,
      c.in-Some.card.idle.0,
      omega arith,
      joins _ _ _ _ c.loop-card.seat.id c.loop-card.seat.me.0 c.in-Some.card.seat.id c.in-Some.card.seat.me.0 _ (ap (λ m. m.0.role) here.known) c.in-Some.card.idle.1,
    )
