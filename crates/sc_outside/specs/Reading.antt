-- How reading to the end of a source ended.
use Rattle.std.specs.Prelude.{◌≡◌, ℕ, ◌<◌, ◌≤◌, Bool, true, false}
use Rattle.sc_outside.specs.Causes.{Rose}
use Rattle.sc_outside.specs.declared.reading.ReadEnd.{ReadEnd}
use Rattle.sc_outside.specs.declared.reading.ReadEnd.TheVariants.{Ended, Failed, Full}

-- the source ended, it failed in this call, or more than the most bytes were taken
abbrev pub EndedSo : ReadEnd → ℕ → Bool → ℕ → ℕ → ℕ → Type 0
EndedSo Ended most ended before now taken = (ended ≡ true) × (taken ≤ most)
EndedSo Failed most ended before now taken = (ended ≡ false) × (taken ≤ most) × Rose before now
EndedSo Full most ended before now taken = (ended ≡ false) × (most < taken)
