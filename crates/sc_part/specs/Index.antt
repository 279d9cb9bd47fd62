-- The index of a list of ids: entries in the order of their digests, one for each id. No public clause cites it.
use Rattle.std.specs.Prelude.{◌≡◌, ℕ, ◌<◌, ◌≤◌, List, length, All, Contains}
use Rattle.std.specs.List.Sorted.{IsSorted}
use Rattle.sc_part.specs.declared.entry.Entry.{Entry}
use Rattle.sc_part.specs.Entry.{digest, id_at, entry_order}

-- the entry has the digest of the id at its place
pub record IsRight (ids : List (List ℕ)) (entry : Entry) : Type 0 where
  pub within : entry.place < length ids
  pub digest : entry.digest ≡ digest (id_at ids entry.place)

-- one of the entries stands for the id
pub record Knows (ids : List (List ℕ)) (entries : List Entry) (id : List ℕ) : Type 0 where
  pub entry : Entry
  pub there : Contains entries entry
  pub is : id_at ids entry.place ≡ id

-- right entries for all of these ids
pub record AreFor (ids : List (List ℕ)) (entries : List Entry) (known : List (List ℕ)) : Type 0 where
  pub right : All (IsRight ids) entries
  pub whole : (id : List ℕ) → Contains known id → Knows ids entries id

-- right entries for all ids, in their order
pub record IsIndex (ids : List (List ℕ)) (index : List Entry) : Type 0 where
  pub entries : AreFor ids index ids
  pub ordered : IsSorted (entry_order ids) index

-- no id stands at two places
abbrev pub AreDistinct : List (List ℕ) → Type 0
AreDistinct ids = (i j : ℕ) → i < length ids → j < length ids → id_at ids i ≡ id_at ids j → i ≡ j

-- what stood in a list stands at the same place of a longer one
pub record Extends (old new : List (List ℕ)) : Type 0 where
  pub longer : length old ≤ length new
  pub same : (p : ℕ) → p < length old → id_at new p ≡ id_at old p
