-- What is told of the loads that a pass publishes: each part that a load changed and that is there after it, load by load.
use Rattle.std.specs.Prelude.{◌≡◌, ◌≢◌, ◌⊎◌, ⊤, ℕ, List, [], ◌∷◌, ◌++◌}
use Rattle.sc_cut.specs.declared.name.PartName.{PartName}
use Rattle.sc_history.specs.Touch.{AreTouched}
use Rattle.sc_catalog.specs.declared.entry.Entry.{Entry}
use Rattle.sc_catalog.specs.Entries.{Takes, change_of}
use Rattle.sc_visit.specs.Visits.{Visitor}
use Rattle.sc_notice.specs.declared.notice.Notice.TheVariants.{Part}
use Rattle.sc_notice.specs.declared.notice.Call.{Call}
use Rattle.sc_notice.specs.declared.notice.Call.TheVariants.{Told, HandedBack}
use Rattle.sc_notice.specs.Callers.{Caller}

-- the part is told by the call; where the queue was full the notice was handed back
abbrev pub IsToldBy : PartName → Call → Type 0
IsToldBy name call = (call ≡ Told (Part name)) ⊎ (call ≡ HandedBack (Part name))

-- the parts are told by the calls, each by one, in order
abbrev pub AreToldBy : List PartName → List Call → Type 0
AreToldBy [] [] = ⊤
AreToldBy [] (call ∷ calls) = ⊥
AreToldBy (name ∷ names) [] = ⊥
AreToldBy (name ∷ names) (call ∷ calls) = IsToldBy name call × AreToldBy names calls

-- the history takes the load of the entry, which changes the parts with these names that are there after it, in order
pub record Changes (history : List Entry) (entry : Entry) (names : List PartName) : Type 0 where
  pub takes : Takes history entry.load
  pub are : AreTouched takes.past (change_of entry.load takes.come) names

-- of an entry of the number each part is told that it changed; of another none is
abbrev pub IsEntryTold : ℕ → List Entry → Entry → List Call → Type 0
IsEntryTold number history entry calls =
    ((entry.by ≢ number) × (calls ≡ [])) ⊎ ((entry.by ≡ number) × ((names : List PartName) × Changes history entry names × AreToldBy names calls))

-- so each of the entries which follow the history, in order
abbrev pub AreEntriesTold : ℕ → List Entry → List Entry → List Call → Type 0
AreEntriesTold number history [] calls = calls ≡ []
AreEntriesTold number history (entry ∷ rest) calls =
    (first : List Call) × (more : List Call) × (calls ≡ first ++ more) × IsEntryTold number history entry first × AreEntriesTold number (history ++ entry ∷ []) rest more

-- a pass and who tells of its loads, from one moment to a later: of the entries which the pass has seen in between, those of its number were told so
pub record TellsOfLoads (old new : Visitor Entry) (before after : Caller) : Type 0 where
  pub of_is : after.of ≡ before.of
  pub shares_are : after.shares ≡ before.shares
  pub number_is : new.number ≡ old.number
  pub rest : List Entry
  pub seen_are : new.seen ≡ old.seen ++ rest
  pub calls : List Call
  pub calls_are : after.calls ≡ before.calls ++ calls
  pub told : AreEntriesTold old.number old.seen rest calls

-- these parts were told of, and nothing else
pub record AreTold (names : List PartName) (before after : Caller) : Type 0 where
  pub of_is : after.of ≡ before.of
  pub shares_are : after.shares ≡ before.shares
  pub calls : List Call
  pub calls_are : after.calls ≡ before.calls ++ calls
  pub are : AreToldBy names calls
