-- What bytes in memory with a record of their calls tell.
use Rattle.std.specs.Prelude.{ℕ, ◌+◌, ◌-◌, ◌≤◌, ◌<◌, List, [], ◌∷◌, length, take, drop, reverse, vec_capacity}
use Rattle.sc_journal.specs.Images.{Change, Write, Synced}
use Rattle.sc_journal.specs.declared.recorded.Call.{Call}
use Rattle.sc_journal.specs.declared.recorded.Call.TheVariants.{WriteAt, Sync}
use Rattle.sc_journal.specs.declared.recorded.Recorded.{Recorded}

-- what the calls changed, the newest first; what the disk had before each write stands in one list, the newest last
abbrev pub changes_by : List Call → List ℕ → List Change
changes_by [] earlier = []
changes_by (WriteAt at size had ∷ calls) earlier = Write at size (drop (length earlier - had) earlier) ∷ changes_by calls (take (length earlier - had) earlier)
changes_by (Sync ∷ calls) earlier = Synced ∷ changes_by calls earlier

abbrev pub changes : Recorded → List Change
changes r = changes_by (reverse r.calls.items) r.earlier.items

-- the bytes that reads give
abbrev pub bytes : Recorded → List ℕ
bytes r = r.bytes.items

-- it has memory for one call more, after which it has at most so many bytes
pub record HasRoom (end : ℕ) (r : Recorded) : Type 0 where
  pub for_bytes : end ≤ vec_capacity r.bytes
  pub for_call : length r.calls.items < vec_capacity r.calls
  pub for_earlier : length r.earlier.items + length r.bytes.items ≤ vec_capacity r.earlier
