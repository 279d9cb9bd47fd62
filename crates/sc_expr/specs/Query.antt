-- What a query asks for, and what every query keeps: a limit that is served, and a place that fits the sort.
use Rattle.std.specs.Prelude.{◌≡◌, ℕ, ◌≤◌, List, length, Option, refl}
use Rattle.std.specs.Option.{ForSome}
use Rattle.std.specs.Coded.{Coded, code_by, coded×, coded_ℕ, coded_option}
use Rattle.sc_sort.specs.declared.key.Key.{Key}
use Rattle.sc_sort.specs.Keys.{Keys}
use Rattle.sc_sort.specs.contracts.key.SortSpec as sorts
use Rattle.sc_sort.specs.contracts.key_list.KeyList as places
use Rattle.sc_expr.specs.declared.select.Select.{Select}
use Rattle.sc_expr.specs.contracts.select.Select as selects

pub record Asked : Type 0 where
  pub select : Select
  pub sort : List Key
  pub limit : ℕ
  pub after : Option Keys

pub record IsQuery (asked : Asked) : Type 0 where
  pub some : 1 ≤ asked.limit
  pub few : asked.limit ≤ 10_000
  pub fits : ForSome asked.after (λ place. length place.values ≡ length asked.sort)

-- a query is stored as the tuple of its parts
abbrev pub asked_code : Coded Asked
asked_code =
    code_by (Select × (List Key × (ℕ × Option Keys)))
    (coded× selects.the_row.coded (coded× sorts.the_row.coded (coded× coded_ℕ (coded_option places.the_row.coded))))
    (λ a. (a.select, (a.sort, (a.limit, a.after))))
    (λ p. record { select = p.0; sort = p.1.0; limit = p.1.1.0; after = p.1.1.1 })
    (λ _. refl)
