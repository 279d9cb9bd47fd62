-- Positions on the grid, whose steps are 10 ^ -7 degree, and which of them are in the world.
use Rattle.std.specs.Prelude.{ℤ, pos, negsuc, ◌≤ℤ◌}
use Rattle.sc_geom.specs.declared.point.Pt.{Pt}

-- from -360 to 360 degrees
abbrev pub IsLongitude : ℤ → Type 0
IsLongitude x = (negsuc 3599999999 ≤ℤ x) × (x ≤ℤ pos 3600000000)

-- from -90 to 90 degrees
abbrev pub IsLatitude : ℤ → Type 0
IsLatitude y = (negsuc 899999999 ≤ℤ y) × (y ≤ℤ pos 900000000)

abbrev pub IsInWorld : Pt → Type 0
IsInWorld p = IsLongitude p.x × IsLatitude p.y
