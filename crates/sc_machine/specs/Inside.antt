-- What the fields of a machine are to contracts, and what they keep. No public clause cites it.
use Rattle.std.specs.Prelude.{◌≡◌, ℕ, ℤ, List, [], ◌∷◌, ◌++◌, map, Option, IfSome}
use Rattle.std.specs.BTreeMap.{BTreeMap, get}
use Rattle.sc_base.specs.Text.{text_order}
use Rattle.sc_json.specs.declared.tree.Json.{Json}
use Rattle.sc_json.specs.declared.tree.Json.TheVariants as trees
use Rattle.sc_json.specs.Grammar.{member}
use Rattle.sc_item.specs.Words.{type_name}
use Rattle.sc_load.specs.Words.{features_name, several_word}
use Rattle.sc_cut.specs.declared.name.PartName.{PartName}
use Rattle.sc_history.specs.Changes.{Change}
use Rattle.sc_history.specs.History.{replay}
use Rattle.sc_history.specs.Part.{Part}
use Rattle.sc_history.specs.Views.{Snap}
use Rattle.sc_shelf.specs.Ticket.{Hull}
use Rattle.sc_catalog.specs.declared.entry.Entry.{Entry}
use Rattle.sc_catalog.specs.Entries.{IsSnapshotOf, IsTightOf, TellsOf}
use Rattle.sc_catalog.specs.Holdings.{Holdings}
use Rattle.sc_machine.specs.State.{State, Bounded, Taken, Looked}
use Rattle.sc_machine.specs.Looks.{part_at}

abbrev pub bounds_of_parts : List Part → List Bounded
bounds_of_parts parts = map (λ part. record { name = part.name; bounds = part.bounds }) parts

abbrev pub taken : Snap → Taken
taken snap = record { revision = snap.revision; bounds = bounds_of_parts snap.parts }

abbrev pub looked : Hull → Looked
looked hull = record { part = hull.name; stamp = hull.stamp }

-- snapshots and tightened tickets by their names
abbrev pub Snaps : Type 0
Snaps = BTreeMap (List ℕ) Snap

abbrev pub Hulls : Type 0
Hulls = BTreeMap (List ℕ) Hull

abbrev pub state_of : Holdings → Snaps → Hulls → State
state_of holdings snaps hulls = record {
  entries = holdings.entries;
  bounds = bounds_of_parts holdings.parts;
  snapshots = map (λ e. (e.0, taken e.1)) snaps.entries;
  tickets = map (λ e. (e.0, looked e.1)) hulls.entries;
}

-- the snapshot was taken of the history, now or earlier
pub record IsOfHistory (entries : List Entry) (snap : Snap) : Type 0 where
  pub seen : List Entry
  pub rest : List Entry
  pub whole : entries ≡ seen ++ rest
  pub is : IsSnapshotOf seen snap

-- no load of the history is refused, each snapshot was taken of it, and each hull can be installed
pub record IsKept (entries : List Entry) (snaps : Snaps) (hulls : Hulls) : Type 0 where
  pub past : List Change
  pub told : TellsOf entries past
  pub snapshots : (name : List ℕ) → IfSome (get text_order snaps name) (IsOfHistory entries)
  pub tickets : (name : List ℕ) → IfSome (get text_order hulls name) (IsTightOf entries)

-- what a collection's part with the key is called by the history, if there is the collection
pub record IsPartAt (entries : List Entry) (collection : List ℕ) (key : ℤ) (part : Option PartName) : Type 0 where
  pub past : List Change
  pub told : TellsOf entries past
  pub is : part ≡ part_at (replay past) collection key

-- ---- trees

-- the FeatureCollection of trees (RFC 7946 §3.3)
abbrev pub collection_tree : List Json → Json
collection_tree items = trees.Object (member type_name (trees.Text several_word) ∷ member features_name (trees.List items) ∷ [])
