-- What contracts see of a desk, its cards and its passes.
use Rattle.std.specs.Prelude.{◌≡◌, ℕ, ◌+◌, ◌<◌, List, [], ◌∷◌, length, slice_index_or, None}
use Rattle.atomic_table.specs.Seated.{TableId}
use Rattle.sc_turn.specs.declared.view.Role.TheVariants.{Idle, Called}
use Rattle.sc_turn.specs.declared.booked.Booked.{Ghosts}
use Rattle.sc_turn.specs.declared.pass.Desk.{Desk}
use Rattle.sc_turn.specs.declared.pass.Card.{Card}
use Rattle.sc_turn.specs.declared.pass.Pass.{Pass}
use Rattle.sc_turn.specs.declared.pass.Turn.{Turn}

module _ {V E : Type 0} where
  -- which desk it is
  abbrev pub desk_id : Desk V E → TableId
  desk_id d = d.table.shared.table_id

  -- how many cards it was made with
  abbrev pub desk_passes : Desk V E → ℕ
  desk_passes d = d.table.shared.key.passes

  -- the value that it was made with
  abbrev pub desk_first : Desk V E → V
  desk_first d = d.table.shared.key.value.value

  abbrev pub pass_desk : Pass V E → TableId
  pass_desk p = p.seat.table_id

  abbrev pub pass_number : Pass V E → ℕ
  pass_number p = p.seat.me.0.number

  -- the length of the history when the lock was made
  abbrev pub pass_start : Pass V E → ℕ
  pass_start p = p.seat.me.0.start

  -- the beginning of the history that it has seen
  abbrev pub pass_seen : Pass V E → List E
  pass_seen p = p.seat.me.0.seen

  -- the length of the history as it left each of its turns
  abbrev pub pass_visits : Pass V E → List ℕ
  pass_visits p = p.seat.me.0.visits

  -- the pass is in no turn
  abbrev pub IsOutside : Pass V E → Type 0
  IsOutside p = (p.seat.me.1 ≡ []) × (p.seat.me.0.role ≡ Idle)

  -- the pass is in this turn: its seat is the one that the turn began with, as it was then, and holds the slot of the value
  abbrev pub IsIn : Pass V E → Turn V E → Type 0
  IsIn p t = (p.seat ≡ t.seat.value) × (p.seat.me.1 ≡ (0, None) ∷ []) × ((ticket : ℕ) × (p.seat.me.0.role ≡ Called ticket))

module _ {V E : Type 0} {g : Ghosts V E} where
  abbrev pub card_desk : Card V E g → TableId
  card_desk c = c.seat.table_id

  abbrev pub card_number : Card V E g → ℕ
  card_number c = c.seat.me.0.number

  abbrev pub card_start : Card V E g → ℕ
  card_start c = c.seat.me.0.start

  abbrev pub card_seen : Card V E g → List E
  card_seen c = c.seat.me.0.seen

  abbrev pub card_visits : Card V E g → List ℕ
  card_visits c = c.seat.me.0.visits

  -- a card's number, and what it has seen
  abbrev pub pair_of : Card V E g → ℕ × List E
  pair_of c = (card_number c, card_seen c)

  -- a new card of a desk whose value has the history `base`
  pub record IsNew (desk : TableId) (number : ℕ) (base : List E) (c : Card V E g) : Type 0 where
    pub of : card_desk c ≡ desk
    pub numbered : card_number c ≡ number
    pub begun : card_start c ≡ length base
    pub saw : card_seen c ≡ base
    pub unvisited : card_visits c ≡ []

  -- so many new cards, numbered from 1 in order
  pub record AreNew (desk : TableId) (base : List E) (n : ℕ) (cards : List (Card V E g)) : Type 0 where
    pub count : length cards ≡ n
    pub each : (k : ℕ) (d : Card V E g) → k < n → IsNew desk (k + 1) base (slice_index_or cards k d)
