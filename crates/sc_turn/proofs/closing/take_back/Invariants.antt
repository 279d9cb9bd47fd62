use Rattle.std.proofs.Common.{◌≡◌, [], ◌++◌, map}
use Rattle.std.specs.Vec.Iter.{into_iter_items}
use Rattle.sc_turn.specs.Views.{closer}
use Rattle.sc_turn.specs.Passes.{pair_of}
use Rattle.sc_turn.proofs.closing.take_back.Given as goal

abbrev pub invariant-loop-card : goal.invariant-loop-card
invariant-loop-card g l =
    record {
      same : l.seat.table_id ≡ l.fn.seat.table_id;
      known : l.seat.me ≡ (closer (map pair_of l.yielded), []);
      split : l.fn.cards.items ≡ l.yielded ++ into_iter_items l.card-iterator;
    }
