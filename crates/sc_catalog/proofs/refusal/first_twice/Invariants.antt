use Rattle.std.proofs.Common.{◌≡◌, ℕ, List, [], map, take, drop, reverse}
use Rattle.std.specs.Arc.{arc_value}
use Rattle.std.specs.BTreeSet.{contains}
use Rattle.std.specs.Borrow.{Bor}
use Rattle.sc_base.specs.Text.{text_order}
use Rattle.sc_history.specs.Changes.{ids_of, is_among}
use Rattle.sc_history.specs.Refusals.{first_twice}
use Rattle.sc_catalog.proofs.refusal.first_twice.Given as goal

abbrev pub invariant-loop-item : goal.invariant-loop-item
invariant-loop-item l = record {
  seen : (q : Bor (List ℕ)) → contains (λ x y. text_order x.now y.now) l.seen q ≡ is_among (reverse (ids_of (map arc_value (take l.item-index l.items)))) q.now;
  rest : first_twice [] (ids_of (map arc_value l.items)) ≡ first_twice (reverse (ids_of (map arc_value (take l.item-index l.items)))) (ids_of (map arc_value (drop l.item-index l.items)));
}
