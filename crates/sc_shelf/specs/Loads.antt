-- Which changes of parts a load makes.
use Rattle.std.specs.Prelude.{◌≡◌, List, is_some, IfSome, All, AllPairs, IsPermutation}
use Rattle.std.specs.declared.cmp.Ordering.TheVariants.{Less}
use Rattle.sc_cut.specs.declared.name.PartName.{PartName}
use Rattle.sc_history.specs.Changes.{Change, is_among, takes}
use Rattle.sc_history.specs.Names.{name_order}
use Rattle.sc_history.specs.History.{replay, comes, touches}
use Rattle.sc_history.specs.Part.{Part, lookup}
use Rattle.sc_shelf.specs.declared.change.PartChange.{PartChange}
use Rattle.sc_shelf.specs.Changed.{change_of, come_by}

-- what comes is what the load puts into the part, in any order; the ids that go are, of those of the part's items, those that the load takes
pub record IsChangeBy (past : List Change) (load : Change) (old : List Part) (change : PartChange) : Type 0 where
  pub come : IsPermutation (comes (replay past) load change.name) (come_by change)
  pub gone : IfSome (lookup change.name old) (λ part. All (λ item. is_among change.gone item.id ≡ takes load.load item.id) part.items)

-- there is a change for each part that the load touches, and for no other; their names rise
pub record AreChangesBy (past : List Change) (load : Change) (old : List Part) (changes : List PartChange) : Type 0 where
  pub rise : AllPairs (λ a b. name_order a.name b.name ≡ Less) changes
  pub touched : (name : PartName) → is_some (change_of name changes) ≡ touches (replay past) load name
  pub each : All (IsChangeBy past load old) changes
