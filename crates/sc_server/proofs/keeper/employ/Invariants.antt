use Rattle.std.proofs.Common.{◌≡◌, ◌++◌, List, length, map, vec_len}
use Rattle.std.specs.Prelude.{vec_capacity}
use Rattle.std.specs.Vec.Iter.{into_iter_items}
use Rattle.sc_turn.specs.Passes.{desk_id, AreNew}
use Rattle.sc_catalog.specs.declared.entry.Entry.{Entry}
use Rattle.sc_server.proofs.Keepers.{AreNumbered}
use Rattle.sc_server.proofs.keeper.employ.Given as goal

abbrev pub invariant-loop-net : goal.invariant-loop-net
invariant-loop-net g l =
    record {
      split : l.fn.nets.items ≡ l.yielded ++ into_iter_items l.net-iterator;
      dealt : (done : List _) × (l.fn.cards.items ≡ done ++ into_iter_items l.cards) × (length done ≡ length l.yielded);
      nets_are : map (λ w. w.net) l.keepers.items ≡ l.yielded;
      numbered : (begun : List Entry) → AreNew (desk_id l.desk) begun (vec_len l.fn.nets) l.fn.cards.items → AreNumbered (desk_id l.desk) begun l.keepers.items;
      count : vec_len l.keepers ≡ length l.yielded;
      room : vec_capacity l.keepers ≡ vec_capacity l.fn.keepers;
    }
