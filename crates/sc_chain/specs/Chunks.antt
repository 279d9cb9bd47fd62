-- The older and wider rule of the walk: candidates whose starts overlap or touch in one instant, directly or through others, are one chunk and are opened together.
use Rattle.std.specs.Prelude.{◌≡◌, ◌≤◌, ℤ, ◌<ℤ◌, Bool, true, false, List, [], ◌∷◌, ◌++◌, length, flat_map, All, AllPairs, Contains, IsPermutation}
use Rattle.sc_bounds.specs.Extent.{AreBounds}
use Rattle.sc_bounds.specs.Moments.{HasMoment}
use Rattle.sc_history.specs.Part.{Part}
use Rattle.sc_history.specs.Sound.{CoversAll}
use Rattle.sc_sort.specs.declared.key.Key.{Key}
use Rattle.sc_sort.specs.Spec.{is_of_time}
use Rattle.sc_expr.specs.Query.{Asked}
use Rattle.sc_walk.specs.Walk.{begins_with_time, found}

-- what the bounds of every part are: bounds, which cover its items
pub record IsCovered (part : Part) : Type 0 where
  pub bounds : AreBounds part.bounds
  pub covers : CoversAll part.bounds part.items

-- two parts stand in one chunk at once: an instant is among the starts of both; with another first key than the time any two do
abbrev pub AreTogether : List Key → Part → Part → Type 0
AreTogether sort p q = begins_with_time sort ≡ true → (at : ℤ) × HasMoment p.bounds.starts at × HasMoment q.bounds.starts at

-- or they do through others of these parts
pub data AreLinked (sort : List Key) (parts : List Part) (p : Part) : Part → Type 0 where
  itself : AreLinked sort parts p p
  through : (q r : Part) → AreLinked sort parts p q → Contains parts r → AreTogether sort q r → AreLinked sort parts p r

abbrev pub IsBefore : Bool → ℤ → ℤ → Type 0
IsBefore true a b = b <ℤ a
IsBefore false a b = a <ℤ b

-- the first key is the time, and in its direction each start of the first part comes before each of the second
abbrev pub ComesBefore : List Key → Part → Part → Type 0
ComesBefore [] p q = ⊥
ComesBefore (key ∷ keys) p q = (is_of_time key ≡ true) × ((a b : ℤ) → HasMoment p.bounds.starts a → HasMoment q.bounds.starts b → IsBefore key.down a b)

-- each part of the first chunk comes before each of the second
abbrev pub AreBefore : List Key → List Part → List Part → Type 0
AreBefore sort chunk later = All (λ p. All (ComesBefore sort p) later) chunk

-- any two of the chunk stand in it, directly or through others of the parts
abbrev pub IsOneChunk : List Key → List Part → List Part → Type 0
IsOneChunk sort parts chunk = All (λ p. All (AreLinked sort parts p) chunk) chunk

-- the parts of chunks, chunk after chunk
abbrev pub parts_of : List (List Part) → List Part
parts_of chunks = flat_map (λ chunk. chunk) chunks

-- the candidates as chunks, in the order in which they are taken
pub record AreChunks (sort : List Key) (candidates : List Part) (chunks : List (List Part)) : Type 0 where
  pub same : IsPermutation candidates (parts_of chunks)
  pub whole : All (IsOneChunk sort candidates) chunks
  pub ordered : AllPairs (AreBefore sort) chunks

-- the part stands in a chunk, and those before it have at most `limit` items that are asked for
pub record IsOpenedByChunks (asked : Asked) (chunks : List (List Part)) (part : Part) : Type 0 where
  pub before : List (List Part)
  pub chunk : List Part
  pub after : List (List Part)
  pub split : chunks ≡ before ++ chunk ∷ after
  pub there : Contains chunk part
  pub few : length (found asked (parts_of before)) ≤ asked.limit
