-- What the machine of a script knows: the history, the bounds of the parts, and the snapshots and the tickets that have a name. It knows no items: they are what
-- the history makes.
use Rattle.std.specs.Prelude.{◌≡◌, ℕ, List, [], Option, find, if◌then◌else◌}
use Rattle.std.specs.List.{AllPairs}
use Rattle.std.specs.Map.{lookup}
use Rattle.std.specs.Option.{option_map}
use Rattle.std.specs.Str.{bytes_eq}
use Rattle.std.specs.Prelude.{Some}
use Rattle.std.specs.declared.cmp.Ordering.TheVariants.{Less}
use Rattle.sc_bounds.specs.Extent.{Extent}
use Rattle.sc_cut.specs.declared.name.PartName.{PartName}
use Rattle.sc_history.specs.Names.{is_name, name_order}
use Rattle.sc_catalog.specs.declared.entry.Entry.{Entry}

-- a part, by its name, and its bounds
pub record Bounded : Type 0 where
  pub name : PartName
  pub bounds : Extent

-- a snapshot: the length of the history that was taken, and the bounds then
pub record Taken : Type 0 where
  pub revision : ℕ
  pub bounds : List Bounded

-- a ticket: the part that was looked at, and its stamp then
pub record Looked : Type 0 where
  pub part : PartName
  pub stamp : ℕ

-- the entries stand in their order; snapshots and tickets are found by their names, which are apart
pub record State : Type 0 where
  pub entries : List Entry
  pub bounds : List Bounded
  pub snapshots : List (List ℕ × Taken)
  pub tickets : List (List ℕ × Looked)

-- a machine that has taken no step
abbrev pub nothing : State
nothing = record { entries = []; bounds = []; snapshots = []; tickets = [] }

-- ---- bounds

-- the bounds of the part with the name
abbrev pub bounds_at : PartName → List Bounded → Option Extent
bounds_at name bounds = option_map (λ b. b.bounds) (find (λ b. is_name b.name name) bounds)

-- each name has these bounds; the names rise
pub record AreBoundsBy (by : PartName → Option Extent) (bounds : List Bounded) : Type 0 where
  pub rise : AllPairs (λ a b. name_order a.name b.name ≡ Less) bounds
  pub each : (name : PartName) → bounds_at name bounds ≡ by name

-- ---- names

-- what has the name
abbrev pub named : {X : Type 0} → List ℕ → List (List ℕ × X) → Option X
named name all = lookup (bytes_eq name) all

-- what is named after this one got the name: the others keep theirs
abbrev pub IsNamed : {X : Type 0} → List ℕ → X → List (List ℕ × X) → List (List ℕ × X) → Type 0
IsNamed name this old new = (other : List ℕ) → named other new ≡ (if bytes_eq other name then Some this else named other old)
