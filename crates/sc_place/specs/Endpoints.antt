-- The eight routes of the catalogue's paths: by their segments, and as the rows of a router.
use Rattle.std.specs.Prelude.{◌<◌, ◌≡◌, ◌≢◌, ◌++◌, ℕ, List, [], ◌∷◌, codes, Option, Some, None}
use Rattle.matchit.specs.Rows.{RowsOf, param_token}
use Rattle.matchit.specs.Router.{RouteOf}
use Rattle.sc_place.specs.Resources.{conformance_name, queryables_name, search_name, collections_name, items_name}
use Rattle.sc_place.specs.Takes.{Has}
use Rattle.sc_place.specs.declared.endpoint.Endpoint.{Endpoint}
use Rattle.sc_place.specs.declared.endpoint.Endpoint.TheVariants.{Landing, Conformance, Queryables, Collections, Collection, Items, Item, Search}

-- these are the segments of a path to the endpoint, with the empty one in front of its first slash
abbrev pub IsEndpoint : Endpoint → List (List ℕ) → Type 0
IsEndpoint Landing segs = segs ≡ [] ∷ ([] ∷ [])
IsEndpoint Conformance segs = segs ≡ [] ∷ (conformance_name ∷ [])
IsEndpoint Queryables segs = segs ≡ [] ∷ (queryables_name ∷ [])
IsEndpoint Search segs = segs ≡ [] ∷ (search_name ∷ [])
IsEndpoint Collections segs = segs ≡ [] ∷ (collections_name ∷ [])
IsEndpoint Collection segs = (written : List ℕ) × (segs ≡ [] ∷ (collections_name ∷ (written ∷ []))) × (written ≢ [])
IsEndpoint Items segs = (written : List ℕ) × (segs ≡ [] ∷ (collections_name ∷ (written ∷ (items_name ∷ [])))) × (written ≢ [])
IsEndpoint Item segs =
    (written : List ℕ) × (last : List ℕ) × (segs ≡ [] ∷ (collections_name ∷ (written ∷ (items_name ∷ (last ∷ []))))) × (written ≢ []) × (last ≢ [])

-- the endpoint, or none where no endpoint has these segments
abbrev pub EndpointOf : Option Endpoint → List (List ℕ) → Type 0
EndpointOf (Some endpoint) segs = IsEndpoint endpoint segs
EndpointOf None segs = (endpoint : Endpoint) → ¬ (IsEndpoint endpoint segs)

-- the text of each route, as the router reads it
abbrev pub route_text : Endpoint → List ℕ
route_text Landing = codes "/"
route_text Conformance = codes "/conformance"
route_text Queryables = codes "/queryables"
route_text Search = codes "/search"
route_text Collections = codes "/collections"
route_text Collection = codes "/collections/{c}"
route_text Items = codes "/collections/{c}/items"
route_text Item = codes "/collections/{c}/items/{id}"

-- and its pattern
abbrev pub pattern_of : Endpoint → List ℕ
pattern_of Landing = codes "/"
pattern_of Conformance = codes "/conformance"
pattern_of Queryables = codes "/queryables"
pattern_of Search = codes "/search"
pattern_of Collections = codes "/collections"
pattern_of Collection = codes "/collections/" ++ param_token ∷ []
pattern_of Items = codes "/collections/" ++ param_token ∷ codes "/items"
pattern_of Item = codes "/collections/" ++ param_token ∷ (codes "/items/" ++ param_token ∷ [])

-- each row is an endpoint with its pattern
abbrev pub Each : RowsOf (RouteOf Endpoint) → Type 0
Each rows = (t : List ℕ) (k : RouteOf Endpoint) → Has rows t k → t ≡ pattern_of k.value

-- the endpoint has a row
abbrev pub Serves : RowsOf (RouteOf Endpoint) → Endpoint → Type 0
Serves rows endpoint = (k : RouteOf Endpoint) × Has rows (pattern_of endpoint) k × (k.value ≡ endpoint)

abbrev pub Keeps : RowsOf (RouteOf Endpoint) → RowsOf (RouteOf Endpoint) → Type 0
Keeps old new = (t : List ℕ) (k : RouteOf Endpoint) → Has old t k → Has new t k

-- the rows are those of the eight endpoints
pub record IsTable (rows : RowsOf (RouteOf Endpoint)) : Type 0 where
  pub each : Each rows
  pub all : (endpoint : Endpoint) → Serves rows endpoint

-- the endpoints in the order in which their routes are added
abbrev pub number : Endpoint → ℕ
number Landing = 0
number Conformance = 1
number Queryables = 2
number Search = 3
number Collections = 4
number Collection = 5
number Items = 6
number Item = 7

abbrev pub Below : ℕ → RowsOf (RouteOf Endpoint) → Type 0
Below n rows = (t : List ℕ) (k : RouteOf Endpoint) → Has rows t k → number k.value < n
