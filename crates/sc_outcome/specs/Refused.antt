-- What a step that is refused gives: the name of the fault, and what is told about it.
use Rattle.std.specs.Prelude.{ℕ, List, codes}
use Rattle.sc_refusal.specs.declared.refusal.Refusal.{Refusal}
use Rattle.sc_outcome.specs.declared.outcome.Outcome.{Outcome}
use Rattle.sc_outcome.specs.declared.outcome.Outcome.TheVariants.{Refused}

-- a step is refused as a request is, but for the status
abbrev pub refused_of : Refusal → Outcome
refused_of refusal = Refused refusal.name refusal.about

-- no snapshot, or no ticket, has the name
abbrev pub no_such_name : List ℕ → Outcome
no_such_name name = Refused (codes "NoSuchName") name

-- a snapshot, or a ticket, has the name already
abbrev pub name_taken : List ℕ → Outcome
name_taken name = Refused (codes "NameTaken") name
