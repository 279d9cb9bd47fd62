-- What the calls of a disk do to its bytes, and what a crash may leave of them.
use Rattle.std.specs.Prelude.{◌≡◌, ◌⊎◌, ℕ, ◌+◌, ◌≤◌, min, max, List, length, take, drop}

-- What a write of n bytes at a place may make of a file, whatever becomes of it: the bytes before the place and those behind
-- the range stay, and any may stand in the range and, where it goes past the old end, from there on.
pub record Torn (at n : ℕ) (old new : List ℕ) : Type 0 where
  pub before : take (min at (length old)) new ≡ take at old
  pub after : drop (at + n) new ≡ drop (at + n) old
  pub no_shorter : length old ≤ length new
  pub no_longer : length new ≤ max (length old) (at + n)

-- the write was done: the bytes stand in the range
pub record Written (at : ℕ) (bytes old new : List ℕ) : Type 0 where
  pub torn : Torn at (length bytes) old new
  pub range : take (length bytes) (drop at new) ≡ bytes

-- what a write that is torn may make of one of these files
abbrev pub TornFrom : ℕ → ℕ → (List ℕ → Type 0) → List ℕ → Type 0
TornFrom at n files file = (old : List ℕ) × files old × Torn at n old file

-- each of these files is among those
abbrev pub Within : (List ℕ → Type 0) → (List ℕ → Type 0) → Type 0
Within these those = (file : List ℕ) → these file → those file

-- these files are those
pub record Same (old new : List ℕ → Type 0) : Type 0 where
  pub none_lost : Within old new
  pub none_new : Within new old

-- this file and no other
abbrev pub Only : List ℕ → (List ℕ → Type 0) → Type 0
Only file files = (c : List ℕ) → files c → c ≡ file

-- A call ends. What a crash since an earlier time may have left gains what a crash may leave now, and nothing else.
pub record Gains (before : ℕ) (past since : ℕ → List ℕ → Type 0) (now : List ℕ → Type 0) : Type 0 where
  pub nothing_else : (t : ℕ) (c : List ℕ) → t ≤ before → since t c → past t c ⊎ now c
  pub kept : (t : ℕ) (c : List ℕ) → t ≤ before → past t c → since t c
  pub gained : (t : ℕ) (c : List ℕ) → t ≤ before → now c → since t c

-- A crash at any moment between two states of a disk leaves one of these files: of what a crash since an earlier time may
-- have left, all else was so already.
pub record LeavesOnly {D : Type 0} (clock : D → ℕ) (left_since : D → ℕ → List ℕ → Type 0) (old new : D) (files : List ℕ → Type 0) : Type 0 where
  pub each : Within (left_since new (clock old)) files
  pub before : (t : ℕ) (c : List ℕ) → t ≤ clock old → left_since new t c → left_since old t c ⊎ files c

-- A disk was only looked at: reads give what they gave, and a crash at any moment leaves what it might have left before.
pub record Observed {D : Type 0} (tells : D → Type 0) (reads : D → List ℕ) (may_leave : D → List ℕ → Type 0) (clock : D → ℕ) (left_since : D → ℕ → List ℕ → Type 0) (old new : D) : Type 0 where
  pub told : tells new → tells old
  pub reads_same : tells new → reads new ≡ reads old
  pub crash : tells new → Same (may_leave old) (may_leave new)
  pub any_moment : tells new → LeavesOnly clock left_since old new (may_leave old)
  pub later : clock old ≤ clock new
