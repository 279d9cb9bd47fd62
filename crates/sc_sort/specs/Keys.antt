-- What an item is ordered by: a value for each key of a sort, then its collection and its id.
use Rattle.std.specs.Prelude.{ℕ, Bool, true, List, length, nat_le, IsUtf8, All}
use Rattle.std.specs.List.{AllPass}
use Rattle.sc_decimal.specs.Number.{IsDec}
use Rattle.sc_time.specs.Instant.{IsInstant}
use Rattle.sc_sort.specs.declared.value.SortValue.{SortValue}
use Rattle.sc_sort.specs.declared.value.SortValue.TheVariants.{Moment, Number, Text, Truth, Absent}

pub record Keys : Type 0 where
  pub values : List SortValue
  pub collection : List ℕ
  pub id : List ℕ

-- a text has at most 128 bytes
abbrev pub is_short : SortValue → Bool
is_short (Moment at) = true
is_short (Number number) = true
is_short (Text text) = nat_le (length text) 128
is_short (Truth truth) = true
is_short Absent = true

-- the values that there are: instants, numbers in their one form, texts in UTF-8
abbrev pub IsKept : SortValue → Type 0
IsKept (Moment at) = IsInstant at
IsKept (Number number) = IsDec number
IsKept (Text text) = IsUtf8 text
IsKept (Truth truth) = Unit {0}
IsKept Absent = Unit {0}

-- what every key list keeps: short texts, values that there are, and names in UTF-8
pub record AreKept (keys : Keys) : Type 0 where
  pub short : AllPass is_short keys.values
  pub values : All IsKept keys.values
  pub collection : IsUtf8 keys.collection
  pub id : IsUtf8 keys.id
