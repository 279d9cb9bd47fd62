use Rattle.sc_index.specs.Found.{HoldTheSame}
use Rattle.sc_index.proofs.places.free_places.Given as goal

abbrev pub invariant-loop-item : goal.invariant-loop-item
invariant-loop-item l = HoldTheSame l.fn.places l.places
