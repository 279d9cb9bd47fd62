-- The job of a request, or the first reason why it has none (STAC API, Core, Collections, Item Search and Transaction extension): its route, its
-- method, the length of its body, the body as JSON, the items or the collection in it, its query, and the revision that was seen.
use Rattle.std.specs.Prelude.{◌≡◌, ◌≢◌, ℕ, List, Option, Some, None, Result, Ok, Err}
use Rattle.sc_json.specs.declared.tree.Json.{Json}
use Rattle.sc_http.specs.declared.request.Request.{Request}
use Rattle.sc_load.specs.declared.load.Load.{Load}
use Rattle.sc_load.specs.declared.load.Load.TheVariants as loads
use Rattle.sc_load.specs.declared.fault.PrepareFault.{PrepareFault}
use Rattle.sc_load.specs.declared.fault.PrepareFault.TheVariants as prepare
use Rattle.sc_load.specs.Load.{IsWellFormed}
use Rattle.sc_load.specs.Features.{trees_of}
use Rattle.sc_load.specs.Prepared.{Adds, IsCollectionFault, Puts, IsItemsFault, Replaces, IsReplaceFault}
use Rattle.sc_expr.specs.declared.select.Pair.{Pair}
use Rattle.sc_expr.specs.Query.{Asked}
use Rattle.sc_query.specs.declared.fault.QueryFault.{QueryFault}
use Rattle.sc_query.specs.declared.fault.QueryFault.TheVariants as queries
use Rattle.sc_query.specs.Query.{QueryOfPairs, QueryWithin, QueryOfBody}
use Rattle.sc_page.specs.declared.links.Links.{Links}
use Rattle.sc_page.specs.declared.links.Links.TheVariants as link
use Rattle.sc_place.specs.declared.operation.Operation.{Operation}
use Rattle.sc_place.specs.declared.operation.Operation.TheVariants as asks
use Rattle.sc_place.specs.Segments.{path_of}
use Rattle.sc_place.specs.Resources.{LeadsNowhere}
use Rattle.sc_place.specs.Operations.{AsksFor, AsksInVain}
use Rattle.sc_refusal.specs.declared.fault.RouteFault.{RouteFault}
use Rattle.sc_refusal.specs.declared.fault.RouteFault.TheVariants.{NoRoute, NoMethod, NoLength, BadBody, BadLoad, BadQuery, BadSeen, OutOfMemory}
use Rattle.sc_route.specs.declared.job.Job.{Job}
use Rattle.sc_route.specs.declared.job.Work.{Work}
use Rattle.sc_route.specs.declared.job.Work.TheVariants as work
use Rattle.sc_route.specs.Bodies.{HasNoLength, HasBody, HasBadBody}
use Rattle.sc_route.specs.Pairs.{HasPairs, says_upsert}
use Rattle.sc_route.specs.Seen.{seen_in}

-- ---- loads

-- the operation reads a body
abbrev pub ReadsBody : Operation → Type 0
ReadsBody asks.AddCollection = Unit {0}
ReadsBody (asks.AddItems collection) = Unit {0}
ReadsBody (asks.ReplaceItem collection id) = Unit {0}
ReadsBody (asks.PatchItem collection id) = Unit {0}
ReadsBody asks.PostSearch = Unit {0}
ReadsBody operation = ⊥

-- the load that an operation brings
abbrev pub Brings : Request → Operation → Load → Type 0
Brings q asks.AddCollection load = (tree : Json) × HasBody q tree × Adds tree load
Brings q (asks.AddItems collection) load =
    (tree : Json) × HasBody q tree × (pairs : List Pair) × HasPairs q.target pairs × Puts collection (says_upsert pairs) (trees_of tree) load
Brings q (asks.ReplaceItem collection id) load = (tree : Json) × HasBody q tree × Replaces collection id tree load
Brings q (asks.PatchItem collection id) load = (tree : Json) × HasBody q tree × (load ≡ loads.Patch collection id tree)
Brings q (asks.DropCollection id) load = load ≡ loads.DropCollection id
Brings q (asks.DeleteItem collection id) load = load ≡ loads.Delete collection id
Brings q operation load = ⊥

-- why the tree of the body is no load
abbrev pub IsNoLoad : Operation → Json → PrepareFault → Type 0
IsNoLoad asks.AddCollection tree fault = IsCollectionFault tree fault
IsNoLoad (asks.AddItems collection) tree fault = IsItemsFault collection (trees_of tree) fault
IsNoLoad (asks.ReplaceItem collection id) tree fault = IsReplaceFault collection id tree fault
IsNoLoad operation tree fault = ⊥

-- ---- searches

-- the collection within which an operation searches, if it is one, the query, and the links of its pages
abbrev pub Searches : List ℕ → Request → Operation → Option (List ℕ) → Asked → Links → Type 0
Searches base q asks.GetSearch within query links =
    (within ≡ None) × (pairs : List Pair) × HasPairs q.target pairs × QueryOfPairs pairs (Ok query) × (links ≡ link.Get base (path_of q.target) pairs)
Searches base q (asks.SearchWithin collection) within query links =
    (within ≡ Some collection) × (pairs : List Pair) × HasPairs q.target pairs × QueryWithin collection pairs (Ok query)
    × (links ≡ link.Get base (path_of q.target) pairs)
Searches base q asks.PostSearch within query links =
    (within ≡ None) × (tree : Json) × HasBody q tree × QueryOfBody tree (Ok query) × (links ≡ link.Post base)
Searches base q operation within query links = ⊥

-- why an operation's search has no query
abbrev pub IsNoQuery : Request → Operation → QueryFault → Type 0
IsNoQuery q asks.GetSearch fault = (pairs : List Pair) × HasPairs q.target pairs × QueryOfPairs pairs (Err fault)
IsNoQuery q (asks.SearchWithin collection) fault = (pairs : List Pair) × HasPairs q.target pairs × QueryWithin collection pairs (Err fault)
IsNoQuery q asks.PostSearch fault = (tree : Json) × HasBody q tree × QueryOfBody tree (Err fault)
IsNoQuery q operation fault = ⊥

-- ---- jobs

-- the work that an operation is
abbrev pub Does : List ℕ → Request → Operation → Work → Type 0
Does base q operation work.Landing = operation ≡ asks.Landing
Does base q operation work.Conformance = operation ≡ asks.Conformance
Does base q operation work.Queryables = operation ≡ asks.Queryables
Does base q operation work.Collections = operation ≡ asks.ListCollections
Does base q operation (work.Collection id) = operation ≡ asks.ReadCollection id
Does base q operation (work.Item collection id) = operation ≡ asks.ReadItem collection id
Does base q operation (work.Search within query links) = Searches base q operation within query links
Does base q operation (work.Load load) = Brings q operation load

-- the first reason why an operation is no work; want of memory says nothing
abbrev pub Fails : Request → Operation → RouteFault → Type 0
Fails q operation NoRoute = ⊥
Fails q operation (NoMethod allow) = ⊥
Fails q operation NoLength = ReadsBody operation × HasNoLength q
Fails q operation (BadBody fault) = ReadsBody operation × HasBadBody q fault
Fails q operation (BadLoad fault) = (tree : Json) × HasBody q tree × IsNoLoad operation tree fault × (fault ≢ prepare.OutOfMemory)
Fails q operation (BadQuery fault) = IsNoQuery q operation fault × (fault ≢ queries.OutOfMemory)
Fails q operation BadSeen = ⊥
Fails q operation OutOfMemory = Unit {0}

-- what a request asks for, or what is wrong with its target or its method
abbrev pub AskedOf : Request → Result Operation RouteFault → Type 0
AskedOf q (Ok operation) = AsksFor q.target q.method operation
AskedOf q (Err NoRoute) = LeadsNowhere q.target
AskedOf q (Err (NoMethod allow)) = AsksInVain q.target q.method allow
AskedOf q (Err OutOfMemory) = Unit {0}
AskedOf q (Err fault) = ⊥

-- the job of a request, or its first fault; want of memory may stand in the place of any answer
abbrev pub JobOf : List ℕ → Request → Result Job RouteFault → Type 0
JobOf base q (Ok job) =
    (operation : Operation) × AsksFor q.target q.method operation × Does base q operation job.work × (seen_in q.headers ≡ Some job.seen)
JobOf base q (Err NoRoute) = AskedOf q (Err NoRoute)
JobOf base q (Err (NoMethod allow)) = AskedOf q (Err (NoMethod allow))
JobOf base q (Err BadSeen) =
    (operation : Operation) × AsksFor q.target q.method operation × (done : Work) × Does base q operation done × (seen_in q.headers ≡ None)
JobOf base q (Err OutOfMemory) = Unit {0}
JobOf base q (Err fault) = (operation : Operation) × AsksFor q.target q.method operation × Fails q operation fault

-- the load of a work, where it is one, is well-formed
abbrev pub IsFormed : Work → Type 0
IsFormed (work.Load load) = IsWellFormed load
IsFormed done = Unit {0}
