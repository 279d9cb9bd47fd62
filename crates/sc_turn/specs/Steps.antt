-- What each kind of step tells of the seat that steps, before and after.
use Rattle.std.specs.Prelude.{◌≡◌, ◌≢◌, ℕ, ◌<◌, List, [], ◌∷◌, ◌++◌, length, Option, Some}
use Rattle.atomic_table.specs.Table.{Me, Step, rest}
use Rattle.sc_turn.specs.declared.view.View.{View}
use Rattle.sc_turn.specs.declared.view.Role.TheVariants.{Idle, Drawn, Called}
use Rattle.sc_turn.specs.History.{Knows}
use Rattle.sc_turn.specs.Views.{view, in_role, closer}

-- a seat's view, and the slots that it has
abbrev pub Sat : Type 0 → Type 0 → Type 0
Sat V E = Me (Option V) (View E)

module _ {V E : Type 0} where
  -- draw: the ticket found is the seat's own, if it is below 2^63
  abbrev pub drawn : Step (Option V) → Sat V E → ℕ → Sat V E → Type 0
  drawn st me found after = (after.1 ≡ me.1) × (found < 9223372036854775808 → after.0 ≡ in_role me.0 (Drawn found))

  -- pass on: the seat has no ticket and no slot, and the length of what it has seen joins its visits
  abbrev pub passed_on : Step (Option V) → Sat V E → ℕ → Sat V E → Type 0
  passed_on st me found after = after ≡ (view me.0.number me.0.start me.0.seen (me.0.visits ++ length me.0.seen ∷ []) Idle, rest me.1)

  -- open: a new seat, which has taken no card back
  abbrev pub opened : Step (Option V) → Sat V E → ℕ → Sat V E → Type 0
  opened st me found after = after ≡ (closer [], [])

module _ {V E : Type 0} (history : V → List E) where
  -- raise: the seat has seen the history of the value that it gives
  abbrev pub raised : Step (Option V) → Sat V E → ℕ → Sat V E → Type 0
  raised st me found after = (y : V) → me.1 ≡ (0, Some y) ∷ [] → after ≡ (view me.0.number me.0.start (history y) me.0.visits me.0.role, me.1)

module _ {V E : Type 0} (history : V → List E) (by : E → ℕ) where
  -- the seat is called with ticket t, has the slot with a value, and has seen its history, which goes on from what it had seen
  abbrev pub IsCalled : ℕ → Sat V E → Sat V E → Type 0
  IsCalled t me after = (y : V) × (after ≡ (view me.0.number me.0.start (history y) me.0.visits (Called t), (0, Some y) ∷ me.1)) × Knows by me.0.number me.0.seen (history y)

  -- read: the seat is called exactly where its ticket is served, and else nothing changes
  abbrev pub read : Step (Option V) → Sat V E → ℕ → Sat V E → Type 0
  read st me found after = (t : ℕ) → me.0.role ≡ Drawn t → (found ≡ t → IsCalled t me after) × (found ≢ t → after ≡ me)
