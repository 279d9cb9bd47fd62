-- What is said of what is found, or isn't.
use Rattle.std.proofs.Common.{◌≡◌, ℕ, List, option_map, Option, Some, None, ap, ◌∙◌}
use Rattle.sc_json.specs.declared.tree.Json.{Json}
use Rattle.sc_json.specs.Compact.{compact}
use Rattle.sc_item.specs.Feature.{Feature}
use Rattle.sc_history.specs.Content.{Collection}
use Rattle.sc_expr.specs.Query.{Asked}
use Rattle.sc_page.specs.declared.links.Links.{Links}
use Rattle.sc_said.specs.Said.{Saying, json, no_collection}
use Rattle.sc_serve.specs.Replies.{of_collection, of_item, of_item_there, TellsPage, OfSearchIn}

abbrev tree_of : Option Collection → Option Json
tree_of found = option_map (λ (c : Collection). c.tree) found

pub of_none : (id : List ℕ) (found : Option Collection) (said : Saying) → None ≡ tree_of found → said ≡ no_collection id → said ≡ of_collection id found
of_none id None said e s = s
of_none id (Some c) said e s = absurd cc

pub of_some : (id : List ℕ) (found : Option Collection) (tree : Json) (said : Saying) → Some tree ≡ tree_of found → said ≡ json (compact tree) → said ≡ of_collection id found
of_some id None tree said e s = absurd cc
of_some id (Some c) tree said e s = let same : tree ≡ c.tree = cc in s ∙ ap (λ (t : Json). json (compact t)) same

pub item_none : (collection id : List ℕ) (found : Option Collection) (item : Option Feature) (said : Saying) → None ≡ tree_of found → said ≡ no_collection collection → said ≡ of_item collection id found item
item_none collection id None item said e s = s
item_none collection id (Some c) item said e s = absurd cc

pub item_some : (collection id : List ℕ) (found : Option Collection) (item : Option Feature) (tree : Json) (said : Saying) → Some tree ≡ tree_of found → said ≡ of_item_there id item
    → said ≡ of_item collection id found item
item_some collection id None item tree said e s = absurd cc
item_some collection id (Some c) item tree said e s = s

module _ (asked : Asked) (links : Links) (items : List Feature) (said : Saying) where
  pub search_none_in : (found : Option Collection) (id : List ℕ) → None ≡ tree_of found → said ≡ no_collection id → OfSearchIn found id asked links items said
  search_none_in None id e s = s
  search_none_in (Some c) id e s = absurd cc

  pub search_some_in : (found : Option Collection) (id : List ℕ) (tree : Json) → Some tree ≡ tree_of found → TellsPage asked links items said → OfSearchIn found id asked links items said
  search_some_in None id tree e s = absurd cc
  search_some_in (Some c) id tree e s = s
