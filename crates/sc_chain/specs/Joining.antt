-- One page of a search more, joined to those before it.
use Rattle.std.specs.Prelude.{◌≡◌, ◌≤◌, ◌++◌, List, Option, option_map}
use Rattle.sc_item.specs.Feature.{Feature}
use Rattle.sc_sort.specs.Keys.{Keys}
use Rattle.sc_expr.specs.Query.{Asked}
use Rattle.sc_page.specs.Search.{IsPage}
use Rattle.sc_chain.specs.Chain.{behind}

-- the page of a query over these items stands behind what was joined before
pub record IsJoined (asked : Asked) (items old new : List Feature) (next : Option Keys) : Type 0 where
  pub page : List Feature
  pub joined : new ≡ old ++ page
  pub is_page : IsPage asked items page next

-- and the next query, where there is one, is the same behind the place that the page gave
pub record GoesOn (asked : Asked) (items old new : List Feature) (next : Option Asked) : Type 0 where
  pub place : Option Keys
  pub some : 1 ≤ asked.limit
  pub is_joined : IsJoined asked items old new place
  pub next_is : next ≡ option_map (behind asked) place
