-- Histories of loads none of which is refused, and the changes that they tell.
use Rattle.std.specs.Prelude.{◌≡◌, List, [], ◌∷◌, map}
use Rattle.sc_load.specs.declared.load.Load.{Load}
use Rattle.sc_load.specs.declared.fault.LoadFault.{LoadFault}
use Rattle.sc_history.specs.Changes.{Change}
use Rattle.sc_history.specs.Refusals.{IsAccepted, IsRefused}

-- each change was accepted by the content that those before it made
abbrev pub IsPast : List Change → Type 0
IsPast [] = Unit {0}
IsPast (change ∷ past) = IsAccepted past change × IsPast past

-- the changes that the loads of a history made; both stand newest first
pub record Tells (history : List Load) (past : List Change) : Type 0 where
  pub loads : map (λ change. change.load) past ≡ history
  pub accepted : IsPast past

-- a history refuses a load with the fault
pub record Refuses (history : List Load) (load : Load) (fault : LoadFault) : Type 0 where
  pub past : List Change
  pub told : Tells history past
  pub refused : IsRefused past load fault
