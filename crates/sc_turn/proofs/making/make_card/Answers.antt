use Rattle.std.proofs.Common.{arith, ap}
use Rattle.sc_turn.proofs.Cards.{makes_card}
use Rattle.sc_turn.proofs.making.make_card.Goals as goal

pub split_seat-seat-requires : goal.split_seat-seat-requires
split_seat-seat-requires g c =
    let few = c.requires.few in
    let words = c.args.desk.now.sized.0 in
    (c.requires.desk, omega arith, makes_card _ _ _ _ c.args.seat.now.id c.args.seat.now.me.0 _ (ap (λ m. m.0.role) c.requires.maker) (omega arith))
