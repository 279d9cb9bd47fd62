-- The views of the lock's seats, and how a card is made and taken back.
use Rattle.std.specs.Prelude.{ℕ, ◌+◌, List, [], ◌∷◌, ◌++◌, length}
use Rattle.sc_turn.specs.declared.view.View.{View}
use Rattle.sc_turn.specs.declared.view.Role.{Role}
use Rattle.sc_turn.specs.declared.view.Role.TheVariants.{Spent, Maker, Idle, Closer}

module _ {E : Type 0} where
  abbrev pub view : ℕ → ℕ → List E → List ℕ → Role E → View E
  view number start seen visits role = record { number = number; start = start; seen = seen; visits = visits; role = role }

  abbrev pub in_role : View E → Role E → View E
  in_role v role = view v.number v.start v.seen v.visits role

  -- the first seat, which has made this many cards
  abbrev pub maker : ℕ → List E → View E
  maker made base = view 0 (length base) base [] (Maker made)

  -- a card that has taken no turn
  abbrev pub card : ℕ → List E → View E
  card number base = view number (length base) base [] Idle

  -- how many cards were made
  abbrev pub made : Role E → ℕ
  made (Maker k) = k
  made _ = 0

  -- the first seat and the new card, once one card more is made
  abbrev pub made_one : View E → View E
  made_one v = maker (made v.role + 1) v.seen

  abbrev pub new_card : View E → View E
  new_card v = card (made v.role + 1) v.seen

  -- the seat that closes the lock, with the numbers and the seen lists of the cards that it took back
  abbrev pub closer : List (ℕ × List E) → View E
  closer cards = view 0 0 [] [] (Closer cards)

  abbrev pub cards_of : Role E → List (ℕ × List E)
  cards_of (Closer cards) = cards
  cards_of _ = []

  abbrev pub joined : View E → View E → View E
  joined v w = closer (cards_of v.role ++ (w.number, w.seen) ∷ [])

  -- a seat whose card was taken back
  abbrev pub spent : View E
  spent = view 0 0 [] [] Spent
