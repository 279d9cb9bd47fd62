-- The place at which a page begins, among items that stand by their starts.
use Rattle.std.specs.Prelude.{◌≡◌, ◌++◌, ℤ, All, false, Option, Some, None, List, [], ◌∷◌}
use Rattle.sc_item.specs.Feature.{Feature}
use Rattle.sc_sort.specs.declared.value.SortValue.{SortValue}
use Rattle.sc_sort.specs.declared.value.SortValue.TheVariants.{Moment, Number, Text, Truth, Absent}
use Rattle.sc_sort.specs.Keys.{Keys}
use Rattle.sc_expr.specs.Query.{Asked}
use Rattle.sc_page.specs.Search.{is_asked}

-- the moment that a list of values begins with, where it does
abbrev pub first_moment : List SortValue → Option ℤ
first_moment [] = None
first_moment (Moment at ∷ values) = Some at
first_moment (Number number ∷ values) = None
first_moment (Text text ∷ values) = None
first_moment (Truth truth ∷ values) = None
first_moment (Absent ∷ values) = None

-- the moment with which the place begins
abbrev pub moment_of : Option Keys → Option ℤ
moment_of None = None
moment_of (Some place) = first_moment place.values

-- the rest of the items: those before them and behind them aren't asked for
pub record LeavesOut (asked : Asked) (items rest : List Feature) : Type 0 where
  pub front : List Feature
  pub back : List Feature
  pub all : items ≡ front ++ (rest ++ back)
  pub before : All (λ item. is_asked asked item ≡ false) front
  pub behind : All (λ item. is_asked asked item ≡ false) back
