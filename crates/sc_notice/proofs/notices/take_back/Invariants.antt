use Rattle.std.proofs.Common.{◌≡◌, ◌<◌, ◌++◌}
use Rattle.std.specs.Vec.Iter.{into_iter_items}
use Rattle.crossbeam_queue.specs.Passes.{view, IsPassOf}
use Rattle.sc_notice.specs.Cards.{with_cards}
use Rattle.sc_notice.proofs.notices.take_back.Given as goal

abbrev pub invariant-loop-card : goal.invariant-loop-card
invariant-loop-card l =
    record {
      of_is : IsPassOf l.notices.queue l.seat;
      some : 0 < (view l.seat).shares;
      view_is : view l.seat ≡ with_cards (view l.fn.seat) l.yielded;
      split : l.fn.cards.items ≡ l.yielded ++ into_iter_items l.card-iterator;
    }
