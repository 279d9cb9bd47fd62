-- What is replied to a request, by what it was read as and by the history: its content, which loads it takes, and its length.
use Rattle.std.specs.Prelude.{◌≡◌, ◌≢◌, ◌⊎◌, ℕ, ◌<◌, Bool, true, false, nat_lt, List, length, find, map, Option, Some, None, Result, Ok, Err}
use Rattle.sc_json.specs.Compact.{compact}
use Rattle.sc_http.specs.declared.reply.Reply.{Reply}
use Rattle.sc_http.specs.declared.fault.HttpEnd.{HttpEnd}
use Rattle.sc_http.specs.declared.fault.HttpEnd.TheVariants as End
use Rattle.sc_item.specs.Feature.{Feature}
use Rattle.sc_load.specs.declared.load.Load.{Load}
use Rattle.sc_load.specs.declared.load.Load.TheVariants.{AddCollection, DropCollection, Insert, Upsert}
use Rattle.sc_load.specs.declared.fault.LoadFault.{LoadFault}
use Rattle.sc_load.specs.declared.fault.LoadFault.TheVariants as Fault
use Rattle.sc_history.specs.Content.{Collection, Content, is_called, item_in}
use Rattle.sc_history.specs.Changes.{Change}
use Rattle.sc_history.specs.History.{replay}
use Rattle.sc_history.specs.Taken.{Refuses}
use Rattle.sc_catalog.specs.declared.entry.Entry.{Entry}
use Rattle.sc_catalog.specs.Entries.{TellsOf, loads_of}
use Rattle.sc_document.specs.Documents.{landing, conformance, queryables, collections}
use Rattle.sc_expr.specs.Query.{Asked}
use Rattle.sc_sort.specs.Keys.{Keys}
use Rattle.sc_page.specs.declared.links.Links.{Links}
use Rattle.sc_page.specs.Linked.{linked_page_text}
use Rattle.sc_page.specs.Search.{IsPage}
use Rattle.sc_said.specs.Said.{Saying, reply_of, refusal_text, refused, json, geojson, behind, no_collection, no_item, accepted_of, not_stored}
use Rattle.sc_route.specs.declared.job.Job.{Job}
use Rattle.sc_route.specs.declared.job.Work.{Work}
use Rattle.sc_route.specs.declared.job.Work.TheVariants as Of
use Rattle.sc_refusal.specs.declared.refusal.Refusal.{Refusal}
use Rattle.sc_refusal.specs.declared.fault.RouteFault.{RouteFault}
use Rattle.sc_refusal.specs.declared.fault.RouteFault.TheVariants as Route
use Rattle.sc_refusal.specs.Refusals.{head_refused, length_refused, route_refused, load_refused}

-- ---- what is told of faults

abbrev pub of_refusal : Refusal → Saying
of_refusal refusal = refused refusal.status refusal.name refusal.about

-- with the methods that are allowed
abbrev pub not_allowed : List ℕ → Refusal → Saying
not_allowed list refusal = record { status = refusal.status; geo = false; allow = Some list; body = refusal_text refusal.name refusal.about }

abbrev pub of_route : RouteFault → Saying
of_route (Route.NoMethod allow) = not_allowed allow (route_refused (Route.NoMethod allow))
of_route fault = of_refusal (route_refused fault)

-- of the ends of the requests a bad head and a bad length are told
abbrev pub of_end : HttpEnd → Option Saying
of_end (End.BadHead fault) = Some (of_refusal (head_refused fault))
of_end (End.BadLength fault) = Some (of_refusal (length_refused fault))
of_end end = None

-- ---- what is told of a content

-- a collection's document, or that there is no such collection
abbrev pub of_collection : List ℕ → Option Collection → Saying
of_collection id None = no_collection id
of_collection id (Some collection) = json (compact collection.tree)

-- an item's document, or that there is no such item
abbrev pub of_item_there : List ℕ → Option Feature → Saying
of_item_there id None = no_item id
of_item_there id (Some item) = geojson item.doc

-- the same, or that there isn't even its collection
abbrev pub of_item : List ℕ → List ℕ → Option Collection → Option Feature → Saying
of_item collection id None item = no_collection collection
of_item collection id (Some made) item = of_item_there id item

-- the collection with the id, if there is one
abbrev pub collection_in : Content → List ℕ → Option Collection
collection_in content id = find (is_called id) content.collections

-- a page of the items, and its text with links
abbrev pub TellsPage : Asked → Links → List Feature → Saying → Type 0
TellsPage asked links items said = (page : List Feature) × (next : Option Keys) × IsPage asked items page next × (said ≡ geojson (linked_page_text page next links))

-- a page, or that the collection isn't there within which the search is
abbrev pub OfSearchIn : Option Collection → List ℕ → Asked → Links → List Feature → Saying → Type 0
OfSearchIn None id asked links items said = said ≡ no_collection id
OfSearchIn (Some collection) id asked links items said = TellsPage asked links items said

abbrev pub OfSearch : Option (List ℕ) → Asked → Links → List Collection → List Feature → Saying → Type 0
OfSearch None asked links collections items said = TellsPage asked links items said
OfSearch (Some id) asked links collections items said = OfSearchIn (find (is_called id) collections) id asked links items said

-- ---- what is told of a load

-- whether a load makes what wasn't there
abbrev pub makes : Load → Bool
makes (AddCollection id cut tree) = true
makes (Insert collection items) = true
makes (Upsert collection items) = true
makes load = false

-- the number of items in the load, or the one item that it is about
abbrev pub count_of : Load → ℕ
count_of (AddCollection id cut tree) = 0
count_of (DropCollection id) = 0
count_of (Insert collection items) = length items
count_of (Upsert collection items) = length items
count_of load = 1

-- the history refuses the load, and this is said of the first fault that holds
pub record IsLoadRefused (entries : List Entry) (load : Load) (said : Saying) : Type 0 where
  pub fault : LoadFault
  pub known : fault ≢ Fault.OutOfMemory
  pub refuses : Refuses (loads_of entries) load fault
  pub said_is : said ≡ of_refusal (load_refused fault)

-- the load was accepted, and the history ends with it; or the history refuses it
abbrev pub SaysOfLoad : List Entry → Load → Bool → Saying → Type 0
SaysOfLoad entries load true said = said ≡ accepted_of (makes load) (length entries) (count_of load)
SaysOfLoad entries load false said = IsLoadRefused entries load said

-- The load was accepted and stands in the history, but it isn't stored yet, which comes only where storing may fail. It is told how many loads are stored, which
-- are fewer than the history has.
pub record TellsNotStored (may_fail : Type 0) (entries : List Entry) (accepted : Bool) (said : Saying) : Type 0 where
  pub may : may_fail
  pub was_accepted : accepted ≡ true
  pub stored : ℕ
  pub fewer : stored < length entries
  pub said_is : said ≡ not_stored stored

-- ---- what is said of a job

-- whether a later revision is stated
abbrev pub is_behind : Option ℕ → ℕ → Bool
is_behind None revision = false
is_behind (Some stated) revision = nat_lt revision stated

abbrev pub is_load : Work → Bool
is_load (Of.Load load) = true
is_load work = false

-- the document that is the same for every history, if that is the work
abbrev pub fixed : List ℕ → Work → Option (List ℕ)
fixed base Of.Landing = Some (landing base)
fixed base Of.Conformance = Some conformance
fixed base Of.Queryables = Some queryables
fixed base work = None

-- there are changes that the history tells, and this is told of the content that they make
abbrev pub Tells : List Entry → (Content → Saying → Type 0) → Saying → Type 0
Tells entries says said = (past : List Change) × TellsOf entries past × says (replay past) said

module _ (base : List ℕ) where
  -- by the work of a job
  abbrev pub SaysOf : Work → List Entry → Bool → Saying → Type 0
  SaysOf Of.Landing entries accepted said = said ≡ json (landing base)
  SaysOf Of.Conformance entries accepted said = said ≡ json conformance
  SaysOf Of.Queryables entries accepted said = said ≡ json queryables
  SaysOf Of.Collections entries accepted said = Tells entries (λ content said. said ≡ json (collections base (map (λ c. c.tree) content.collections))) said
  SaysOf (Of.Collection id) entries accepted said = Tells entries (λ content said. said ≡ of_collection id (collection_in content id)) said
  SaysOf (Of.Item collection id) entries accepted said =
      Tells entries (λ content said. said ≡ of_item collection id (collection_in content collection) (item_in content.items collection id)) said
  SaysOf (Of.Search within asked links) entries accepted said = Tells entries (λ content said. OfSearch within asked links content.collections content.items said) said
  SaysOf (Of.Load load) entries accepted said = SaysOfLoad entries load accepted said

  -- a job is told that it is behind, where it states a later revision, else by its work
  abbrev pub Says : Bool → Work → List Entry → Bool → Saying → Type 0
  Says true work entries accepted said = (accepted ≡ false) × (said ≡ behind (length entries))
  Says false work entries accepted said = SaysOf work entries accepted said

  -- what is said of a request that was read as this: a job, or why it is refused
  abbrev pub SaysTo : Result Job RouteFault → List Entry → Bool → Saying → Type 0
  SaysTo (Ok job) entries accepted said = Says (is_behind job.seen (length entries)) job.work entries accepted said
  SaysTo (Err fault) entries accepted said = said ≡ of_route fault

  -- so; or a load was accepted and isn't stored, which is told then
  abbrev pub SaysOrNotStored : Type 0 → Result Job RouteFault → List Entry → Bool → Saying → Type 0
  SaysOrNotStored may_fail job entries accepted said = SaysTo job entries accepted said ⊎ TellsNotStored may_fail entries accepted said

  -- the reply says so, tells the length of the history as its revision, and ends the connection as the request asks
  abbrev pub IsReply : Type 0 → Bool → Result Job RouteFault → List Entry → Bool → Reply → Type 0
  IsReply may_fail close job entries accepted reply = (said : Saying) × SaysOrNotStored may_fail job entries accepted said × (reply ≡ reply_of said (length entries) close)

-- the reply has the text of the page of all items of the history, with its links, and tells the length of the history as its revision
pub record IsPageOf (asked : Asked) (links : Links) (entries : List Entry) (reply : Reply) : Type 0 where
  pub past : List Change
  pub told : TellsOf entries past
  pub page : List Feature
  pub next : Option Keys
  pub is : IsPage asked (replay past).items page next
  pub body_is : reply.body ≡ linked_page_text page next links
  pub revision_is : reply.revision ≡ length entries
