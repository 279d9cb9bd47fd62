use Rattle.std.proofs.Common.{◌≡◌, ◌++◌, length, vec_len}
use Rattle.std.specs.Prelude.{vec_capacity}
use Rattle.std.specs.Vec.Iter.{into_iter_items}
use Rattle.sc_server.specs.Keepers.{AreDismissed}
use Rattle.sc_server.proofs.keeper.dismiss.Given as goal

abbrev pub invariant-loop-keeper : goal.invariant-loop-keeper
invariant-loop-keeper g l =
    record {
      split : l.fn.keepers.items ≡ l.yielded ++ into_iter_items l.keeper-iterator;
      left : AreDismissed l.yielded l.cards.items l.nets.items l.listen_failed;
      count : vec_len l.cards ≡ length l.yielded;
      nets_count : vec_len l.nets ≡ length l.yielded;
      room : vec_capacity l.cards ≡ vec_capacity l.fn.cards;
      nets_room : vec_capacity l.nets ≡ vec_capacity l.fn.nets;
    }
