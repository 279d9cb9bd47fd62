-- The request for the next page, as its link tells it (STAC API, Item Search, pagination), and what it asks for.
use Rattle.std.specs.Prelude.{◌≡◌, ◌≢◌, ℕ, List, [], ◌∷◌, map, Option, Some, None, Result, Ok, IsUtf8}
use Rattle.sc_json.specs.declared.tree.Json.{Json}
use Rattle.sc_json.specs.declared.tree.Json.TheVariants as trees
use Rattle.sc_json.specs.declared.tree.Member.{Member}
use Rattle.sc_json.specs.Member.{member_value}
use Rattle.sc_json.specs.Views.{object_of}
use Rattle.sc_item.specs.Feature.{Feature}
use Rattle.sc_sort.specs.Keys.{Keys, AreKept}
use Rattle.sc_token.specs.Token.{token_of}
use Rattle.sc_token.specs.Steps.{IsOfLength}
use Rattle.sc_expr.specs.declared.select.Pair.{Pair}
use Rattle.sc_expr.specs.Query.{Asked}
use Rattle.sc_page.specs.Linked.{next_pairs}
use Rattle.sc_query.specs.declared.fault.QueryFault.{QueryFault}
use Rattle.sc_query.specs.Words.{token_name}
use Rattle.sc_query.specs.Given.{of_pairs}
use Rattle.sc_query.specs.Query.{QueryOf, QueryOfBody}
use Rattle.sc_chain.specs.Chain.{IsPageOf}

-- the pairs of the address that a page's link has: those of the request but its tokens, and then the token of the place
abbrev pub next_request : List Pair → Keys → List Pair
next_request pairs place = map (λ pair. record { name = pair.0; value = pair.1 }) (next_pairs pairs (token_of place))

-- a body with the token of the place merged into it: that member has it, and each other member is as it was
pub record IsNextBody (body : Json) (place : Keys) (next : Json) : Type 0 where
  pub members : List Member
  pub is_object : object_of next ≡ Some members
  pub token : member_value next token_name ≡ Some (trees.Text (token_of place))
  pub others : (name : List ℕ) → name ≢ token_name → member_value next name ≡ member_value body name

-- an item of which collection and id have 1 to 256 bytes
pub record HasShortName (item : Feature) : Type 0 where
  pub collection : IsOfLength item.collection
  pub id : IsOfLength item.id

-- what every pair keeps
pub record IsInUtf8 (pair : Pair) : Type 0 where
  pub name : IsUtf8 pair.name
  pub value : IsUtf8 pair.value

-- the pages of a request, and of those that follow it, one after another: each is the next of the one before, behind the
-- place that its page gave, which keeps what every key list does
pub data AreFollowed {Request : Type 0} (Reads : Request → Result Asked QueryFault → Type 0) (IsNext : Request → Keys → Request → Type 0) (items : List Feature) : Request → List (List Feature) → Type 0 where
  one_page : (request : Request) (asked : Asked) (page : List Feature) → Reads request (Ok asked) → IsPageOf asked items page None → AreFollowed Reads IsNext items request (page ∷ [])
  more_pages : (request next : Request) (asked : Asked) (page : List Feature) (place : Keys) (pages : List (List Feature)) → Reads request (Ok asked) → IsPageOf asked items page (Some place) → AreKept place → IsNext request place next
      → AreFollowed Reads IsNext items next pages → AreFollowed Reads IsNext items request (page ∷ pages)

-- the pages of a search's pairs, and of the pairs of the addresses that their links have, within one collection or not
abbrev pub PairsFollowed : Option (List ℕ) → List Feature → List Pair → List (List Feature) → Type 0
PairsFollowed within = AreFollowed (λ pairs. QueryOf within (of_pairs pairs)) (λ pairs place next. next ≡ next_request pairs place)

-- the pages of a search's body, and of the bodies that their links make of it
abbrev pub BodiesFollowed : List Feature → Json → List (List Feature) → Type 0
BodiesFollowed = AreFollowed QueryOfBody IsNextBody
