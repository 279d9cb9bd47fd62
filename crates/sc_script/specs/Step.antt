-- Which line is which step of a script: a JSON text (RFC 8259) of an object with exactly the members of the step's kind, in any order.
use Rattle.std.specs.Prelude.{◌≡◌, ◌≤◌, ◌+◌, ℕ, ℤ, Bool, true, false, List, Option, Some, None, Result, Ok, Err, codes, if◌then◌else◌}
use Rattle.std.specs.Option.{option_and_then, option_map}
use Rattle.std.specs.List.{AllByRecursion}
use Rattle.std.specs.Str.{bytes_eq}
use Rattle.sc_json.specs.declared.tree.Json.{Json}
use Rattle.sc_json.specs.Member.{member_value}
use Rattle.sc_json.specs.Views.{list_of, text_member}
use Rattle.sc_json.specs.Spells.{Spells}
use Rattle.sc_json.specs.Good.{Good, depth}
use Rattle.sc_script.specs.declared.step.Draft.{Draft}
use Rattle.sc_script.specs.declared.step.Draft.TheVariants as draft
use Rattle.sc_script.specs.declared.step.Step.{Step}
use Rattle.sc_script.specs.declared.step.Step.TheVariants as step
use Rattle.sc_script.specs.declared.step.StepFault.{StepFault}
use Rattle.sc_script.specs.declared.step.StepFault.TheVariants as fault
use Rattle.sc_script.specs.declared.kind.Kind.{Kind}
use Rattle.sc_script.specs.declared.kind.Kind.TheVariants as kind
use Rattle.sc_script.specs.Members.{has_size, as_name, whole_of, publisher, part_key, as_object}

-- ---- kinds

-- the word for a kind
abbrev pub kind_of : List ℕ → Option Kind
kind_of word =
    if bytes_eq word (codes "add") then Some kind.Add
    else if bytes_eq word (codes "drop") then Some kind.Drop
    else if bytes_eq word (codes "insert") then Some kind.Insert
    else if bytes_eq word (codes "upsert") then Some kind.Upsert
    else if bytes_eq word (codes "replace") then Some kind.Replace
    else if bytes_eq word (codes "patch") then Some kind.Patch
    else if bytes_eq word (codes "delete") then Some kind.Delete
    else if bytes_eq word (codes "snapshot") then Some kind.Snapshot
    else if bytes_eq word (codes "look") then Some kind.Look
    else if bytes_eq word (codes "install") then Some kind.Install
    else if bytes_eq word (codes "search") then Some kind.Search
    else None

-- how many members its objects have; the first is the word
abbrev pub size_of : Kind → ℕ
size_of kind.Add = 3
size_of kind.Drop = 3
size_of kind.Insert = 4
size_of kind.Upsert = 4
size_of kind.Replace = 4
size_of kind.Patch = 5
size_of kind.Delete = 4
size_of kind.Snapshot = 2
size_of kind.Look = 4
size_of kind.Install = 2
size_of kind.Search = 3

-- ---- members

-- what is made of the text that a member is
abbrev pub of_text : {A : Type 0} → Json → List ℕ → (List ℕ → Option A) → Option A
of_text tree name make = option_and_then make (text_member tree name)

-- of the name of 1 to 64 bytes that it is
abbrev pub of_name : {A : Type 0} → Json → List ℕ → (List ℕ → Option A) → Option A
of_name tree name make = of_text tree name (λ text. option_and_then make (as_name text))

-- of the whole number that it is
abbrev pub of_whole : Json → List ℕ → Option ℤ
of_whole tree name = option_and_then whole_of (member_value tree name)

-- ---- loads

abbrev pub add_of : Json → Option Draft
add_of tree = option_map draft.Add (option_and_then as_object (member_value tree (codes "collection")))

abbrev pub drop_of : Json → Option Draft
drop_of tree = option_map draft.Drop (text_member tree (codes "collection"))

abbrev pub items_of : Bool → Json → Option Draft
items_of upsert tree = of_text tree (codes "collection") (λ collection. option_map (draft.Items collection upsert) (option_and_then list_of (member_value tree (codes "items"))))

abbrev pub replace_of : Json → Option Draft
replace_of tree = of_text tree (codes "collection") (λ collection. option_map (draft.Replace collection) (member_value tree (codes "item")))

abbrev pub patch_of : Json → Option Draft
patch_of tree = of_text tree (codes "collection") (λ collection. of_text tree (codes "id") (λ id. option_map (draft.Patch collection id) (member_value tree (codes "patch"))))

abbrev pub delete_of : Json → Option Draft
delete_of tree = of_text tree (codes "collection") (λ collection. option_map (draft.Delete collection) (text_member tree (codes "id")))

-- a load, with the number of who publishes it
abbrev pub load_of : Json → Option Draft → Option Step
load_of tree load = option_and_then (λ by. option_map (step.Publish by) load) (option_and_then publisher (of_whole tree (codes "by")))

-- ---- the other steps

abbrev pub snapshot_of : Json → Option Step
snapshot_of tree = of_name tree (codes "as") (λ name. Some (step.Snapshot name))

abbrev pub look_of : Json → Option Step
look_of tree = of_name tree (codes "as") (λ name. of_text tree (codes "collection") (λ collection. option_map (step.Look name collection) (option_and_then part_key (of_whole tree (codes "key")))))

abbrev pub install_of : Json → Option Step
install_of tree = of_name tree (codes "ticket") (λ name. Some (step.Install name))

abbrev pub search_of : Json → Option Step
search_of tree = of_name tree (codes "on") (λ name. option_map (step.Search name) (member_value tree (codes "query")))

-- ---- steps

abbrev pub step_of_kind : Kind → Json → Option Step
step_of_kind kind.Add tree = load_of tree (add_of tree)
step_of_kind kind.Drop tree = load_of tree (drop_of tree)
step_of_kind kind.Insert tree = load_of tree (items_of false tree)
step_of_kind kind.Upsert tree = load_of tree (items_of true tree)
step_of_kind kind.Replace tree = load_of tree (replace_of tree)
step_of_kind kind.Patch tree = load_of tree (patch_of tree)
step_of_kind kind.Delete tree = load_of tree (delete_of tree)
step_of_kind kind.Snapshot tree = snapshot_of tree
step_of_kind kind.Look tree = look_of tree
step_of_kind kind.Install tree = install_of tree
step_of_kind kind.Search tree = search_of tree

abbrev pub step_of_size : Json → Kind → Option Step
step_of_size tree kind = if has_size (size_of kind) tree then step_of_kind kind tree else None

-- the step that a tree is
unfoldable pub step_of : Json → Option Step
step_of tree = of_text tree (codes "step") (λ word. option_and_then (step_of_size tree) (kind_of word))

-- the step that a line is
pub record StepOf (line : List ℕ) (step : Step) : Type 0 where
  pub tree : Json
  pub spelled : Spells line tree
  pub is : step_of tree ≡ Some step

-- a line that is no step
abbrev pub IsNoStep : List ℕ → Type 0
IsNoStep line = (step : Step) → StepOf line step → ⊥

-- what a reader answers of a line; want of memory says nothing
abbrev pub Answers : List ℕ → Result Step StepFault → Type 0
Answers line (Ok step) = StepOf line step
Answers line (Err fault.BadStep) = IsNoStep line
Answers line (Err fault.OutOfMemory) = Unit {0}

-- ---- trees in steps

-- a good tree that stands within so many others of a good tree
pub record StandsWithin (levels : ℕ) (tree : Json) : Type 0 where
  pub good : Good tree
  pub shallow : depth tree + levels ≤ 64

abbrev pub HasGoodTree : Draft → Type 0
HasGoodTree (draft.Add collection) = Good collection
HasGoodTree (draft.Drop collection) = Unit {0}
HasGoodTree (draft.Items collection upsert items) = AllByRecursion (StandsWithin 2) items
HasGoodTree (draft.Replace collection item) = Good item
HasGoodTree (draft.Patch collection id patch) = Good patch
HasGoodTree (draft.Delete collection id) = Unit {0}

-- the trees that a step brings are good, as all that are read are
abbrev pub HasGoodTrees : Step → Type 0
HasGoodTrees (step.Publish by load) = HasGoodTree load
HasGoodTrees (step.Search name query) = Good query
HasGoodTrees step = Unit {0}
