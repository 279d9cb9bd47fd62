-- Sets of moments: none, or all from a first to a last, which belong to it. Moments are nanoseconds from 1970-01-01T00:00:00Z.
use Rattle.std.specs.Prelude.{ℤ, ◌≤ℤ◌, int_le, Option, Some, None, if◌then◌else◌}
use Rattle.std.specs.Int.{int_min, int_max}

-- the moment is in the set
abbrev pub HasMoment : Option (ℤ × ℤ) → ℤ → Type 0
HasMoment None at = ⊥
HasMoment (Some range) at = (range.0 ≤ℤ at) × (at ≤ℤ range.1)

-- the first isn't later than the last
abbrev pub AreMoments : Option (ℤ × ℤ) → Type 0
AreMoments None = Unit {0}
AreMoments (Some range) = range.0 ≤ℤ range.1

-- the least set that has all moments of both
abbrev pub moments_join : Option (ℤ × ℤ) → Option (ℤ × ℤ) → Option (ℤ × ℤ)
moments_join None b = b
moments_join (Some a) None = Some a
moments_join (Some a) (Some b) = Some (int_min a.0 b.0, int_max a.1 b.1)

-- the moments that are in both
abbrev pub moments_meet : Option (ℤ × ℤ) → Option (ℤ × ℤ) → Option (ℤ × ℤ)
moments_meet None b = None
moments_meet (Some a) None = None
moments_meet (Some a) (Some b) =
    if int_le (int_max a.0 b.0) (int_min a.1 b.1) then Some (int_max a.0 b.0, int_min a.1 b.1) else None
