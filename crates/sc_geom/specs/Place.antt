-- Where a longitude and a latitude in degrees lie on the grid.
use Rattle.std.specs.Prelude.{ℤ, pos, negsuc, ◌&&◌, int_le, if◌then◌else◌, Option, Some, None}
use Rattle.std.specs.Option.{option_and_then}
use Rattle.sc_decimal.specs.Number.{Number}
use Rattle.sc_decimal.specs.Grid.{grid_of}
use Rattle.sc_geom.specs.declared.point.Pt.{Pt}

abbrev pub kept_between : ℤ → ℤ → ℤ → Option ℤ
kept_between low high step = if int_le low step && int_le step high then Some step else None

-- the step nearest to the number; none where that is out of range
unfoldable pub step_between : ℤ → ℤ → Number → Option ℤ
step_between low high number = option_and_then (kept_between low high) (grid_of number)

abbrev pub longitude_of : Number → Option ℤ
longitude_of = step_between (negsuc 3599999999) (pos 3600000000)

abbrev pub latitude_of : Number → Option ℤ
latitude_of = step_between (negsuc 899999999) (pos 900000000)

abbrev pub place_from : Option ℤ → Option ℤ → Option Pt
place_from (Some x) (Some y) = Some (record { x = x; y = y })
place_from _ _ = None

-- the position; none where one of its coordinates is out of range
unfoldable pub place_of : Number → Number → Option Pt
place_of longitude latitude = place_from (longitude_of longitude) (latitude_of latitude)
