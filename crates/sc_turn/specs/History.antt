-- What is said of a history, a list of entries of which each has the number of the pass that made it (`by`).
use Rattle.std.specs.Prelude.{◌≡◌, ◌≢◌, ◌≤◌, ◌⊎◌, ℕ, List, [], ◌∷◌, ◌++◌, length, Some, slice_get, All, Any, Contains}

-- the history begins with what was seen, and no later entry has this number
pub record Knows {E : Type 0} (by : E → ℕ) (number : ℕ) (seen history : List E) : Type 0 where
  pub rest : List E
  pub whole : history ≡ seen ++ rest
  pub others : All (λ e. by e ≢ number) rest

-- a turn of the pass with this number leaves the history as it was found, or with one entry more, which has the number
abbrev pub MayFollow : {E : Type 0} → (E → ℕ) → ℕ → List E → List E → Type 0
MayFollow {E} by number found left = (left ≡ found) ⊎ ((e : E) × (left ≡ found ++ e ∷ []) × (by e ≡ number))

-- each number from 1 to m is among these
abbrev pub HasNumbers : ℕ → List ℕ → Type 0
HasNumbers m numbers = (n : ℕ) → 1 ≤ n → n ≤ m → Contains numbers n

-- the history of a lock that was made at `base`, once it is closed with cards of these numbers and seen lists
pub record Closes {E : Type 0} (by : E → ℕ) (base : List E) (cards : List (ℕ × List E)) (history : List E) : Type 0 where
  -- it begins with the history at the start
  pub later : List E
  pub whole : history ≡ base ++ later
  -- it begins with what each card has seen, and no later entry has that card's number
  pub known : All (λ (c : ℕ × List E). Knows by c.0 c.1 history) cards
  -- each entry past the start has the number of a card, which has seen it at its place
  pub owned : (i : ℕ) (e : E) → length base ≤ i → slice_get history i ≡ Some e → Any (λ (c : ℕ × List E). (by e ≡ c.0) × (slice_get c.1 i ≡ Some e)) cards
