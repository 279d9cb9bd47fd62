-- When a call of the outside may answer that it failed, and how its faults are counted.
use Rattle.std.specs.Prelude.{ℕ, ◌+◌, ◌-◌, ◌^◌, ◌≤◌, min, Result, Ok, Err, OnErr}

-- a count rose, or stands at its type's end
abbrev pub Rose : ℕ → ℕ → Type 0
Rose before now = min (before + 1) (2 ^ 64 - 1) ≤ now

-- the count of faults didn't fall, and it rose where the call failed
pub record HasCause {T E : Type 0} (before now : ℕ) (result : Result T E) : Type 0 where
  pub later : before ≤ now
  pub failed : OnErr result (Rose before now)

-- the count after a call that counts its faults and nothing else: one more where it failed, and at its type's end the same
abbrev pub counted : {T E : Type 0} → Result T E → ℕ → ℕ
counted (Ok value) before = before
counted (Err fault) before = min (before + 1) (2 ^ 64 - 1)
