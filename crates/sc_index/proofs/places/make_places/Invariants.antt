use Rattle.std.specs.Prelude.{map, take}
use Rattle.std.specs.Arc.{arc_value}
use Rattle.sc_index.specs.Found.{HavePlaces, HoldTheSame}
use Rattle.sc_index.proofs.places.make_places.Given as goal

abbrev pub invariant-loop-item : goal.invariant-loop-item
invariant-loop-item l = record {
  same : HoldTheSame l.fn.places l.places;
  made : HavePlaces l.places (map arc_value (take l.item-index l.items));
}
