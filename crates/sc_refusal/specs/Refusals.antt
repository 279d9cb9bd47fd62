-- Refusals: the status of the reply that tells a fault (RFC 9110, section 15), the fault's name, and what is told about it.
use Rattle.std.specs.Prelude.{ℕ, List, [], ◌∷◌, ◌++◌, codes, decimal, Option, Some, None}
use Rattle.sc_json.specs.declared.fault.JsonFault.{JsonFault}
use Rattle.sc_json.specs.declared.fault.JsonFault.TheVariants as json
use Rattle.sc_time.specs.declared.fault.TimeFault.{TimeFault}
use Rattle.sc_time.specs.declared.fault.TimeFault.TheVariants as time
use Rattle.sc_geom.specs.declared.fault.GeomFault.{GeomFault}
use Rattle.sc_geom.specs.declared.fault.GeomFault.TheVariants as geometry
use Rattle.sc_expr.specs.declared.fault.CqlFault.{CqlFault}
use Rattle.sc_expr.specs.declared.fault.CqlFault.TheVariants as filter
use Rattle.sc_sort.specs.declared.fault.SortFault.{SortFault}
use Rattle.sc_sort.specs.declared.fault.SortFault.TheVariants as sort
use Rattle.sc_token.specs.declared.fault.TokenFault.{TokenFault}
use Rattle.sc_token.specs.declared.fault.TokenFault.TheVariants as token
use Rattle.sc_item.specs.declared.fault.ItemFault.{ItemFault}
use Rattle.sc_item.specs.declared.fault.ItemFault.TheVariants as item
use Rattle.sc_http.specs.declared.fault.HeadFault.{HeadFault}
use Rattle.sc_http.specs.declared.fault.HeadFault.TheVariants as head
use Rattle.sc_http.specs.declared.fault.LengthFault.{LengthFault}
use Rattle.sc_http.specs.declared.fault.LengthFault.TheVariants as framing
use Rattle.sc_load.specs.declared.fault.PrepareFault.{PrepareFault}
use Rattle.sc_load.specs.declared.fault.PrepareFault.TheVariants as prepare
use Rattle.sc_load.specs.declared.fault.LoadFault.{LoadFault}
use Rattle.sc_load.specs.declared.fault.LoadFault.TheVariants as load
use Rattle.sc_query.specs.declared.fault.QueryFault.{QueryFault}
use Rattle.sc_query.specs.declared.fault.QueryFault.TheVariants as query
use Rattle.sc_refusal.specs.declared.refusal.Refusal.{Refusal}
use Rattle.sc_refusal.specs.declared.fault.RouteFault.{RouteFault}
use Rattle.sc_refusal.specs.declared.fault.RouteFault.TheVariants as route

abbrev pub refusal : ℕ → List ℕ → List ℕ → Refusal
refusal status name about = record { status = status; name = name; about = about }

-- ---- what is told of a fault within another: its name, and behind a blank its number or its place where it has one; nothing is told of want of memory

abbrev pub counted : List ℕ → ℕ → List ℕ
counted name number = name ++ 32 ∷ decimal number

-- of JSON text: the byte at which it stands
abbrev pub json_told : JsonFault → List ℕ
json_told (json.Syntax at) = counted (codes "Syntax") at
json_told (json.Duplicate at) = counted (codes "Duplicate") at
json_told (json.TooDeep at) = counted (codes "TooDeep") at
json_told (json.NumberTooWide at) = counted (codes "NumberTooWide") at
json_told (json.NotUtf8 at) = counted (codes "NotUtf8") at
json_told json.OutOfMemory = []

-- of times and ranges
abbrev pub time_told : TimeFault → List ℕ
time_told time.BadForm = codes "BadForm"
time_told time.BadDate = codes "BadDate"
time_told time.OutOfRange = codes "OutOfRange"
time_told time.Backwards = codes "Backwards"

-- of geometries: how many positions there are
abbrev pub geometry_told : GeomFault → List ℕ
geometry_told geometry.BadShape = codes "BadShape"
geometry_told geometry.OpenRing = codes "OpenRing"
geometry_told geometry.OutOfWorld = codes "OutOfWorld"
geometry_told (geometry.TooManyPositions count) = counted (codes "TooManyPositions") count
geometry_told geometry.OutOfMemory = []

-- of filters: the byte or the value at which it stands
abbrev pub filter_told : CqlFault → List ℕ
filter_told (filter.Syntax at) = counted (codes "Syntax") at
filter_told filter.TooDeep = codes "TooDeep"
filter_told filter.TooManyNodes = codes "TooManyNodes"
filter_told (filter.BadLiteral at) = counted (codes "BadLiteral") at
filter_told filter.OutOfMemory = []

-- of sorts: how many keys there are
abbrev pub sort_told : SortFault → List ℕ
sort_told sort.BadField = codes "BadField"
sort_told sort.BadDirection = codes "BadDirection"
sort_told (sort.TooManyKeys count) = counted (codes "TooManyKeys") count
sort_told sort.OutOfMemory = []

-- of tokens: how many elements there are
abbrev pub token_told : TokenFault → List ℕ
token_told token.NotHex = codes "NotHex"
token_told token.NotAList = codes "NotAList"
token_told (token.WrongCount count) = counted (codes "WrongCount") count
token_told token.WrongKind = codes "WrongKind"
token_told token.OutOfMemory = []

-- of items: what is wrong with a geometry isn't told
abbrev pub item_told : ItemFault → List ℕ
item_told item.NotAFeature = codes "NotAFeature"
item_told item.BadId = codes "BadId"
item_told item.WrongCollection = codes "WrongCollection"
item_told item.BadTime = codes "BadTime"
item_told (item.BadGeometry fault) = codes "BadGeometry"
item_told item.OutOfMemory = []

-- of heads
abbrev pub head_told : HeadFault → List ℕ
head_told head.Malformed = codes "Malformed"
head_told head.TooLarge = codes "TooLarge"

-- of the lengths of bodies
abbrev pub length_told : LengthFault → List ℕ
length_told framing.Coded = codes "Coded"
length_told framing.Unreadable = codes "Unreadable"
length_told framing.TooLong = codes "TooLong"

-- what is told of a fault that need not be there
abbrev pub if_told : {F : Type 0} → (F → List ℕ) → Option F → List ℕ
if_told told None = []
if_told told (Some fault) = told fault

-- ---- refusals; for want of memory there is the reply with 503, which has no body

abbrev pub no_memory : Refusal
no_memory = refusal 503 [] []

-- of requests that can't be read
abbrev pub head_refused : HeadFault → Refusal
head_refused head.Malformed = refusal 400 (codes "BadHead") (head_told head.Malformed)
head_refused head.TooLarge = refusal 431 (codes "BadHead") (head_told head.TooLarge)

abbrev pub length_refused : LengthFault → Refusal
length_refused framing.Coded = refusal 501 (codes "BadLength") (length_told framing.Coded)
length_refused framing.Unreadable = refusal 400 (codes "BadLength") (length_told framing.Unreadable)
length_refused framing.TooLong = refusal 413 (codes "BadLength") (length_told framing.TooLong)

-- of trees of which no load is read: the item's place, counted from 0, and its fault; or how many items there are
abbrev pub prepare_refused : PrepareFault → Refusal
prepare_refused (prepare.BadItem n fault) = refusal 400 (codes "BadItem") (decimal n ++ 32 ∷ item_told fault)
prepare_refused (prepare.TooManyItems count) = refusal 400 (codes "TooManyItems") (decimal count)
prepare_refused prepare.BadCollection = refusal 400 (codes "BadCollection") []
prepare_refused prepare.OutOfMemory = no_memory

-- of parameters that are no query
abbrev pub query_refused : QueryFault → Refusal
query_refused query.BadLimit = refusal 400 (codes "BadLimit") []
query_refused query.BadBbox = refusal 400 (codes "BadBbox") []
query_refused (query.BadDatetime fault) = refusal 400 (codes "BadDatetime") (time_told fault)
query_refused (query.BadIntersects fault) = refusal 400 (codes "BadIntersects") (if_told geometry_told fault)
query_refused query.BboxAndIntersects = refusal 400 (codes "BboxAndIntersects") []
query_refused query.BadIds = refusal 400 (codes "BadIds") []
query_refused query.BadCollections = refusal 400 (codes "BadCollections") []
query_refused query.BadLang = refusal 400 (codes "BadLang") []
query_refused query.BadCrs = refusal 400 (codes "BadCrs") []
query_refused (query.BadFilter fault) = refusal 400 (codes "BadFilter") (if_told filter_told fault)
query_refused (query.BadSort fault) = refusal 400 (codes "BadSort") (sort_told fault)
query_refused (query.BadToken fault) = refusal 400 (codes "BadToken") (token_told fault)
query_refused query.BadBody = refusal 400 (codes "BadBody") []
query_refused query.OutOfMemory = no_memory

-- of requests that ask for nothing that can be done
abbrev pub route_refused : RouteFault → Refusal
route_refused route.NoRoute = refusal 404 (codes "NoRoute") []
route_refused (route.NoMethod allow) = refusal 405 (codes "NoMethod") []
route_refused route.NoLength = refusal 411 (codes "NoLength") []
route_refused (route.BadBody fault) = refusal 400 (codes "BadBody") (json_told fault)
route_refused (route.BadLoad fault) = prepare_refused fault
route_refused (route.BadQuery fault) = query_refused fault
route_refused route.BadSeen = refusal 400 (codes "BadSeen") []
route_refused route.OutOfMemory = no_memory

-- of loads that a catalogue doesn't take: the id that is there, isn't there or stands twice; what is wrong with the patched item; or how many there
-- would be
abbrev pub load_refused : LoadFault → Refusal
load_refused load.NoCollection = refusal 404 (codes "NoCollection") []
load_refused load.CollectionExists = refusal 409 (codes "CollectionExists") []
load_refused (load.ItemExists id) = refusal 409 (codes "ItemExists") id
load_refused (load.NoItem id) = refusal 404 (codes "NoItem") id
load_refused (load.DuplicateInLoad id) = refusal 400 (codes "DuplicateInLoad") id
load_refused (load.BadPatch fault) = refusal 400 (codes "BadPatch") (item_told fault)
load_refused (load.HistoryFull entries bytes) = refusal 507 (codes "HistoryFull") (counted (decimal entries) bytes)
load_refused (load.PartitionsFull count) = refusal 507 (codes "PartitionsFull") (decimal count)
load_refused (load.CollectionsFull count) = refusal 507 (codes "CollectionsFull") (decimal count)
load_refused load.OutOfMemory = no_memory
