-- What a step of a script does that searches: the page of all items that the history had at a snapshot, and how many steps that takes.
use Rattle.std.specs.Prelude.{◌≡◌, ◌≢◌, ℕ, ◌+◌, List, [], map, filter, Option, Some, None, Ok, Err}
use Rattle.sc_json.specs.declared.tree.Json.{Json}
use Rattle.sc_expr.specs.Query.{Asked}
use Rattle.sc_query.specs.declared.fault.QueryFault.{QueryFault}
use Rattle.sc_query.specs.declared.fault.QueryFault.TheVariants.{OutOfMemory}
use Rattle.sc_query.specs.Query.{QueryOfBody}
use Rattle.sc_history.specs.Content.{Content}
use Rattle.sc_history.specs.Changes.{Change}
use Rattle.sc_history.specs.History.{back, replay}
use Rattle.sc_history.specs.Names.{part_of, scan_of}
use Rattle.sc_history.specs.Part.{Part}
use Rattle.sc_walk.specs.Walk.{cost, is_opened}
use Rattle.sc_catalog.specs.declared.entry.Entry.{Entry}
use Rattle.sc_catalog.specs.Entries.{TellsOf}
use Rattle.sc_page.specs.declared.found.Page.{Page}
use Rattle.sc_page.specs.Search.{IsPage, shared}
use Rattle.sc_refusal.specs.Refusals.{query_refused}
use Rattle.sc_outcome.specs.declared.outcome.Outcome.{Outcome}
use Rattle.sc_outcome.specs.declared.outcome.Outcome.TheVariants.{Found}
use Rattle.sc_outcome.specs.Refused.{refused_of, no_such_name}
use Rattle.sc_machine.specs.State.{State, Bounded, Taken}
use Rattle.sc_machine.specs.Looks.{OnlyTells}

-- the content of the history at a snapshot
abbrev pub content_at : List Change → Taken → Content
content_at past taken = replay (back taken.revision past)

-- the page of what the body asks for, of all items at the snapshot
pub record Answers (entries : List Entry) (taken : Taken) (asked : Asked) (outcome : Outcome) : Type 0 where
  pub past : List Change
  pub told : TellsOf entries past
  pub page : Page
  pub is : IsPage asked (content_at past taken).items (shared page.items) page.next
  pub outcome_is : outcome ≡ Found taken.revision page

pub data SearchesIn (taken : Taken) (body : Json) (entries : List Entry) (outcome : Outcome) : Type 0 where
  -- the body is no query
  refused : (fault : QueryFault) → QueryOfBody body (Err fault) → fault ≢ OutOfMemory → outcome ≡ refused_of (query_refused fault) → SearchesIn taken body entries outcome
  -- it is one
  found : (asked : Asked) → QueryOfBody body (Ok asked) → Answers entries taken asked outcome → SearchesIn taken body entries outcome

-- a search changes nothing; the snapshot has to be there
abbrev pub TakesSearch : List ℕ → Option Taken → Json → State → State → Outcome → Type 0
TakesSearch name None body old new outcome = OnlyTells (no_such_name name) old new outcome
TakesSearch name (Some taken) body old new outcome = (new ≡ old) × SearchesIn taken body old.entries outcome

-- ---- steps

-- what a search sees of a part at the snapshot: its name, its items and its bounds
abbrev pub part_with : Content → Bounded → Part
part_with content b = record { name = b.name; stamp = 0; items = scan_of (part_of content b.name); bounds = b.bounds; kept_from = 0; additions = [] }

abbrev pub parts_at : List Change → Taken → List Part
parts_at past taken = map (part_with (content_at past taken)) taken.bounds

-- the steps of a search, by the bounds that the parts had at the snapshot
abbrev pub cost_at : List Change → Taken → Asked → ℕ
cost_at past taken asked = cost (filter (is_opened asked (parts_at past taken)) (parts_at past taken))

-- how far a search counts, from one number to another
pub data CountsIn (taken : Taken) (body : Json) (entries : List Entry) (before after : ℕ) : Type 0 where
  refused : (fault : QueryFault) → QueryOfBody body (Err fault) → after ≡ before → CountsIn taken body entries before after
  found : (asked : Asked) → QueryOfBody body (Ok asked) → (past : List Change) → TellsOf entries past → after ≡ before + cost_at past taken asked → CountsIn taken body entries before after

abbrev pub CountsSearch : Option Taken → Json → List Entry → ℕ → ℕ → Type 0
CountsSearch None body entries before after = after ≡ before
CountsSearch (Some taken) body entries before after = CountsIn taken body entries before after
