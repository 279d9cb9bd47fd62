use Rattle.std.specs.Prelude.{◌≡◌, ℕ, List, length, map}
use Rattle.std.specs.Option.{option_or}
use Rattle.std.specs.Arc.{arc_value}
use Rattle.sc_index.specs.Found.{HavePlaces, held}
use Rattle.sc_index.proofs.Putting.{first_with}
use Rattle.sc_index.proofs.places.put_all.Given as goal

abbrev pub invariant-loop-item : goal.invariant-loop-item
invariant-loop-item l = record {
  places : HavePlaces l.places (map arc_value l.items.items);
  held : (id : List ℕ) → option_or (first_with id l.items.items) (held l.places id) ≡ option_or (first_with id l.fn.items.items) (held l.fn.places id);
}

abbrev pub decreases-loop-item : goal.decreases-loop-item
decreases-loop-item l = length l.items.items
