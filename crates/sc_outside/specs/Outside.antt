-- What the calls of a source and of a sink do to their bytes.
use Rattle.std.specs.Prelude.{ℕ, ◌<◌, nat_lt, ◌==◌, Bool, false, ◌&&◌, List, length, take, Result, Ok, Err, MatchResult, IfOk}
use Rattle.std.specs.declared.option.Option.{Option}
use Rattle.std.specs.Io.KnownBytes.{Appends}

-- a read answered the end: nothing, for a buffer that has room
abbrev pub is_end : {E : Type 0} → Result ℕ E → ℕ → Bool
is_end (Ok n) room = (n == 0) && nat_lt 0 room
is_end (Err e) room = false

-- some front of the piece was added
abbrev pub AppendsFront : Option (List ℕ) → Option (List ℕ) → List ℕ → Type 0
AppendsFront old new piece = (n : ℕ) × Appends old new (take n piece)

-- a write added the first n bytes after `Ok(n)`, and some front of the piece where it failed
abbrev pub WriteAdds : {E : Type 0} → Option (List ℕ) → Option (List ℕ) → Result ℕ E → List ℕ → Type 0
WriteAdds old new r piece = MatchResult r (λ n. Appends old new (take n piece)) (λ _. AppendsFront old new piece)

-- something of a piece that isn't empty is taken
abbrev pub TakesSome : {E : Type 0} → Result ℕ E → List ℕ → Type 0
TakesSome r piece = IfOk r (λ n. 0 < length piece → 0 < n)
