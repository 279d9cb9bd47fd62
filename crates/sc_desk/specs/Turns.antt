-- What the turn of a publish adds to the history.
use Rattle.std.specs.Prelude.{ℕ, List, [], ◌∷◌, Result, Ok, Err}
use Rattle.sc_load.specs.declared.load.Load.{Load}
use Rattle.sc_catalog.specs.declared.entry.Entry.{Entry}
use Rattle.sc_catalog.specs.Entries.{Takes, by, entry_of}
use Rattle.sc_visit.specs.Visits.{Visitor, TakesTurn}

-- the entries that a publish adds, by what it answers
abbrev pub own_of : {P F : Type 0} → ℕ → Load → Result P F → List Entry
own_of number load (Ok published) = entry_of number load ∷ []
own_of number load (Err refused) = []

-- one turn of the pass, which found a history that takes the load, and left it with the load's entry
abbrev pub Publishes : Load → Visitor Entry → Visitor Entry → Type 0
Publishes load old new = (turn : TakesTurn by (entry_of old.number load ∷ []) old new) × Takes turn.found load
