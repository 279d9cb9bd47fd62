-- The rule of the lock, which holds between any two steps.
-- Word 0 is the next ticket, word 1 the ticket that is served, word 2 the length of the history. The one slot is at home, with the value, unless the seat that is called has it.
use Rattle.std.specs.Prelude.{◌≡◌, ◌⊎◌, ℕ, ◌+◌, ◌-◌, ◌<◌, ◌≤◌, List, [], ◌∷◌, ◌++◌, length, Option, Some}
use Rattle.std.specs.List.{All, sum_by}
use mathlib.Core.Option.{none, some}
use mathlib.Core.Option as maybe
use lib.ListN.{get_elem?}
use Rattle.atomic_table.specs.Table.{State}
use Rattle.sc_turn.specs.declared.view.View.{View}
use Rattle.sc_turn.specs.declared.view.Role.{Role}
use Rattle.sc_turn.specs.declared.view.Role.TheVariants.{Spent, Maker, Idle, Drawn, Stuck, Called, Closer}
use Rattle.sc_turn.specs.History.{Knows}

-- the seat is a card or a pass: its number is from 1 to m and no other seat's, and it knows the history
pub record Lives {E : Type 0} (by : E → ℕ) (m : ℕ) (history : List E) (owner : ℕ → maybe.Option ℕ) (id : ℕ) (v : View E) : Type 0 where
  pub low : 1 ≤ v.number
  pub high : v.number ≤ m
  pub own : owner v.number ≡ some id
  pub knows : Knows by v.number v.seen history

-- the seat is the first, and has made the cards 1 to k: no seat has a greater number, and no entry past the start
pub record Makes {E : Type 0} (by : E → ℕ) (m : ℕ) (base later : List E) (owner : ℕ → maybe.Option ℕ) (id k : ℕ) (v : View E) : Type 0 where
  pub first : id ≡ 0
  pub few : k ≤ m
  pub unowned : (n : ℕ) → k < n → owner n ≡ none
  pub unused : All (λ e. by e ≤ k) later
  pub saw : v.seen ≡ base

-- the seat has drawn ticket t, which no other seat has: it isn't past, and the next ticket is greater
pub record Waits (ticket serving : ℕ) (holder : ℕ → maybe.Option ℕ) (id t : ℕ) : Type 0 where
  pub least : serving ≤ t
  pub most : t < ticket
  pub own : holder t ≡ some id

-- the seat's ticket t is served, and it knows the whole history
pub record Serves {E : Type 0} (history : List E) (ticket serving : ℕ) (holder : ℕ → maybe.Option ℕ) (id t : ℕ) (v : View E) : Type 0 where
  pub now : t ≡ serving
  pub waits : Waits ticket serving holder id t
  pub all : v.seen ≡ history

-- the closing seat has the numbers of its cards, and each card knows the history
abbrev pub HasCards : {E : Type 0} → (E → ℕ) → List E → (ℕ → maybe.Option ℕ) → ℕ → List (ℕ × List E) → Type 0
HasCards {E} by history owner id cards = All (λ (c : ℕ × List E). (owner c.0 ≡ some id) × Knows by c.0 c.1 history) cards

module _ {E : Type 0} (by : E → ℕ) (m : ℕ) (base later : List E) (ticket serving : ℕ) (owner holder : ℕ → maybe.Option ℕ) (id : ℕ) where
  abbrev pub InRole : View E → Role E → Type 0
  InRole v Spent = Unit {0}
  InRole v (Maker k) = Makes by m base later owner id k v
  InRole v Idle = Lives by m (base ++ later) owner id v
  InRole v (Drawn t) = Lives by m (base ++ later) owner id v × Waits ticket serving holder id t
  InRole v Stuck = Lives by m (base ++ later) owner id v
  InRole v (Called t) = Lives by m (base ++ later) owner id v × Serves (base ++ later) ticket serving holder id t v
  InRole v (Closer cards) = HasCards by (base ++ later) owner id cards

-- how many seats may yet be stuck with a ticket of 2^63 or more, counted by what this seat is and may make
abbrev pub may_stick : {E : Type 0} → ℕ → Role E → ℕ
may_stick m Spent = 0
may_stick m (Maker k) = m - k
may_stick m Idle = 1
may_stick m (Drawn t) = 1
may_stick m Stuck = 0
may_stick m (Called t) = 1
may_stick m (Closer cards) = 0

abbrev pub stuck_by : {E : Type 0} → ℕ → View E → ℕ
stuck_by m v = may_stick m v.role

-- the value is at home with this history, or a seat is called with the ticket that is served
abbrev pub HasHome : {V E : Type 0} → (V → List E) → List E → ℕ → maybe.Option (Option V) → List (View E) → Type 0
HasHome {V} {E} history log serving home views = ((y : V) × (home ≡ some (Some y)) × (history y ≡ log))
    ⊎ ((i : ℕ) × (v : View E) × (get_elem? views i ≡ some v) × (v.role ≡ Called serving))

pub record Kept {V E : Type 0} (history : V → List E) (by : E → ℕ) (m : ℕ) (base : List E) (s : State (Option V) (View E)) : Type 0 where
  pub ticket : ℕ
  pub serving : ℕ
  pub home : maybe.Option (Option V)
  -- the history is base ++ later
  pub later : List E
  -- which seat has a number, and which has a ticket that isn't past
  pub owner : ℕ → maybe.Option ℕ
  pub holder : ℕ → maybe.Option ℕ
  pub words : s.words ≡ ticket ∷ serving ∷ length (base ++ later) ∷ []
  pub homes : s.homes ≡ home ∷ []
  pub numbered : All (λ e. (1 ≤ by e) × (by e ≤ m)) later
  pub has_home : HasHome history (base ++ later) serving home s.views
  pub each : (id : ℕ) (v : View E) → get_elem? s.views id ≡ some v → InRole by m base later ticket serving owner holder id v v.role
  pub served : serving ≤ ticket
  -- so no word of tickets ever wraps round: from 2^63 on each ticket drawn leaves a seat stuck
  pub small : m ≤ 64
  pub room : (ticket - 9223372036854775808) + sum_by (stuck_by m) s.views ≤ m
