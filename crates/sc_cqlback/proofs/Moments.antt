-- The text of a moment ends in a letter.
use Rattle.std.proofs.Common.{◌≡◌, ℕ, List, [], ◌∷◌, ◌++◌, false, refl, ℤ}
use Rattle.sc_time.specs.Written.{utc_text, date_text, clock_text, fraction_text}
use Rattle.sc_cqlwrite.specs.Moment.{moment_text, fields_of}
use Rattle.sc_cqlwrite.specs.Spellable.{ends_in_backslash}

ends_behind : (xs : List ℕ) → ends_in_backslash (xs ++ 90 ∷ []) ≡ false
ends_behind [] = refl
ends_behind (a ∷ []) = refl
ends_behind (a ∷ b ∷ bs) = ends_behind (b ∷ bs)

pub moment_ends : (at : ℤ) → ends_in_backslash (moment_text at) ≡ false
unfolding moment_text utc_text
moment_ends at = ends_behind (date_text (fields_of at).date ++ clock_text (fields_of at).clock ++ fraction_text (fields_of at).nanosecond)
