-- Which key lists fit a sort.
use Rattle.std.specs.Prelude.{◌≡◌, ℕ, ◌≤◌, Bool, true, false, List, [], ◌∷◌, length, IsUtf8}
use Rattle.sc_sort.specs.declared.value.SortValue.{SortValue}
use Rattle.sc_sort.specs.declared.value.SortValue.TheVariants.{Moment, Number, Text, Truth, Absent}
use Rattle.sc_sort.specs.declared.key.Key.{Key}
use Rattle.sc_sort.specs.Keys.{Keys, IsKept, is_short}
use Rattle.sc_sort.specs.Spec.{is_of_time}

abbrev pub is_moment : SortValue → Bool
is_moment (Moment at) = true
is_moment (Number number) = false
is_moment (Text text) = false
is_moment (Truth truth) = false
is_moment Absent = false

-- a key of time has a moment, and no other key has one; a text has at most 128 bytes
pub record FitsKey (of_time : Bool) (value : SortValue) : Type 0 where
  pub kind : is_moment value ≡ of_time
  pub short : is_short value ≡ true
  pub kept : IsKept value

-- there is one value for each key
abbrev pub FitKeys : List Key → List SortValue → Type 0
FitKeys [] [] = Unit {0}
FitKeys [] (value ∷ values) = ⊥
FitKeys (key ∷ keys) [] = ⊥
FitKeys (key ∷ keys) (value ∷ values) = FitsKey (is_of_time key) value × FitKeys keys values

-- a text of 1 to 256 bytes
pub record IsName (text : List ℕ) : Type 0 where
  pub utf8 : IsUtf8 text
  pub some : 1 ≤ length text
  pub short : length text ≤ 256

pub record FitsSort (sort : List Key) (keys : Keys) : Type 0 where
  pub values : FitKeys sort keys.values
  pub collection : IsName keys.collection
  pub id : IsName keys.id
