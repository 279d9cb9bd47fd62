-- Seats: a pass of a desk and a pass of its notices, by which one thread takes turns, tells and hears.
use Rattle.std.specs.Prelude.{◌≡◌, ℕ, ◌+◌, ◌<◌, List, [], ◌++◌, length, map, replicate, slice_index_or}
use Rattle.sc_turn.specs.{TableId}
use Rattle.sc_turn.specs.Passes.{card_desk, card_number, card_seen}
use Rattle.sc_turn.specs.declared.booked.Booked.{Ghosts}
use Rattle.sc_turn.specs.declared.pass.Card.{Card}
use Rattle.sc_catalog.specs.declared.entry.Entry.{Entry}
use Rattle.sc_visit.specs.Visits.{Visitor}
use Rattle.sc_notice.specs.declared.notice.Notice.TheVariants.{Stop}
use Rattle.sc_notice.specs.Callers.{Caller, told_in, heard_in}
use Rattle.sc_tighten.specs.declared.count.WorkDone.{WorkDone}
use Rattle.sc_tighten.specs.Work.{Works, tightener}
use Rattle.sc_server.specs.declared.seat.Seat.{Seat}

-- a pass of this number at a desk that was made when this was the history, which has taken no turn
abbrev pub joiner : TableId → List Entry → ℕ → Visitor Entry
joiner desk begun number = record { desk = desk; number = number; start = length begun; seen = begun; visits = [] }

-- the same at a desk whose history was empty
abbrev pub newcomer : TableId → ℕ → Visitor Entry
newcomer desk number = joiner desk [] number

-- one seat for each card of notices, numbered from 1 at the desk; none has done anything
pub record AreSeated (desk : TableId) (callers : List Caller) (seats : List Seat) : Type 0 where
  pub notices_are : map (λ seat. seat.notices) seats ≡ callers
  pub passes : (k : ℕ) (s : Seat) → k < length seats → (slice_index_or seats k s).pass ≡ newcomer desk (k + 1)

-- parts that were heard of were tightened in so many turns, or fewer up to a `Stop`
pub record IsTightened (turns : ℕ) (old new : Seat) : Type 0 where
  pub done : WorkDone
  pub works : Works turns done (tightener old.pass old.notices) (tightener new.pass new.notices)

-- each seat's did
pub record AreTightened (turns : ℕ) (old new : List Seat) : Type 0 where
  pub count : length new ≡ length old
  pub each : (k : ℕ) (s : Seat) → k < length old → IsTightened turns (slice_index_or old k s) (slice_index_or new k s)

-- `Stop` was told so often, and nothing else was told or heard
pub record TellsStop (count : ℕ) (old new : Caller) : Type 0 where
  pub of_is : new.of ≡ old.of
  pub shares_are : new.shares ≡ old.shares
  pub told : told_in new.calls ≡ told_in old.calls ++ replicate count Stop
  pub heard : heard_in new.calls ≡ heard_in old.calls

-- parts were tightened in so many turns, and then `Stop` was told to so many
pub record IsStopping (turns count : ℕ) (old new : Seat) : Type 0 where
  pub mid : Seat
  pub tightened : IsTightened turns old mid
  pub pass_is : new.pass ≡ mid.pass
  pub stops : TellsStop count mid.notices new.notices

-- the card of a pass
pub record IsCardFor {V : Type 0} {g : Ghosts V Entry} (visitor : Visitor Entry) (card : Card V Entry g) : Type 0 where
  pub of : card_desk card ≡ visitor.desk
  pub numbered : card_number card ≡ visitor.number
  pub saw : card_seen card ≡ visitor.seen

-- the card of a seat's pass
abbrev pub IsCardOf : {V : Type 0} {g : Ghosts V Entry} → Seat → Card V Entry g → Type 0
IsCardOf seat card = IsCardFor seat.pass card

-- the cards of all seats, in order
pub record AreCardsOf {V : Type 0} {g : Ghosts V Entry} (seats : List Seat) (cards : List (Card V Entry g)) (callers : List Caller) : Type 0 where
  pub count : length cards ≡ length seats
  pub each : (k : ℕ) (s : Seat) (c : Card V Entry g) → k < length seats → IsCardOf (slice_index_or seats k s) (slice_index_or cards k c)
  pub notices_are : callers ≡ map (λ seat. seat.notices) seats
