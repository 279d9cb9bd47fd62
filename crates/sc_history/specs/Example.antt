-- An example: items of a collection that is cut by months are put into March, one of them moves to April, and March empties and is made again.
use Rattle.std.specs.Prelude.{◌≡◌, true, false, ℕ, zero, suc, ◌+◌, ℤ, pos, List, [], ◌∷◌, None, codes}
use Rattle.std.specs.declared.alloc.Global.{Global}
use Rattle.std.specs.declared.sync.Arc.{Arc}
use Rattle.sc_json.specs.declared.tree.Json.{Json}
use Rattle.sc_json.specs.declared.tree.Json.TheVariants.{Null}
use Rattle.sc_item.specs.Feature.{Feature}
use Rattle.sc_cut.specs.declared.cut.Cut.TheVariants.{Month}
use Rattle.sc_cut.specs.declared.name.PartName.{PartName}
use Rattle.sc_load.specs.declared.load.Load.TheVariants.{AddCollection, Insert, Patch, Delete}
use Rattle.sc_cut.specs.Key.{has_key}
use Rattle.sc_bounds.specs.Extent.{Extent}
use Rattle.sc_history.specs.declared.addition.Addition.{Addition}
use Rattle.sc_history.specs.Changes.{Change}

abbrev pub s2 : List ℕ
s2 = codes "s2"

-- an item of a moment
abbrev pub scene : List ℕ → ℤ → Feature
scene id at = record { collection = s2; id = id; start = at; end = at; geom = None; place = None; tree = Null; doc = [] }

abbrev pub march : PartName
march = record { collection = s2; cut = Month; key = pos 24290 }

abbrev pub april : PartName
april = record { collection = s2; cut = Month; key = pos 24291 }

-- the first day lies in March 2024 and not in April, the later one in April and not in March
pub record IsExample (day later : ℤ) : Type 0 where
  pub in_march : has_key Month (pos 24290) day ≡ true
  pub not_in_april : has_key Month (pos 24291) day ≡ false
  pub not_in_march : has_key Month (pos 24290) later ≡ false
  pub in_april : has_key Month (pos 24291) later ≡ true

-- the collection, with an item a and an item k in March
abbrev pub two_in_march : Json → List (Arc Feature Global) → List (Arc Feature Global) → ℤ → List Change
two_in_march tree first second day =
    record { load = Insert s2 second; come = scene (codes "k") day ∷ [] }
    ∷ record { load = Insert s2 first; come = scene (codes "a") day ∷ [] }
    ∷ record { load = AddCollection s2 Month tree; come = [] }
    ∷ []

-- a patch moves a to April
abbrev pub one_moved : Json → Json → List (Arc Feature Global) → List (Arc Feature Global) → ℤ → ℤ → List Change
one_moved tree patch first second day later =
    record { load = Patch s2 (codes "a") patch; come = scene (codes "a") later ∷ [] } ∷ two_in_march tree first second day

-- k goes, and comes again
abbrev pub one_again : Json → Json → List (Arc Feature Global) → List (Arc Feature Global) → ℤ → ℤ → List Change
one_again tree patch first second day later =
    record { load = Insert s2 second; come = scene (codes "k") day ∷ [] }
    ∷ record { load = Delete s2 (codes "k"); come = [] }
    ∷ one_moved tree patch first second day later

-- so many additions of one hull, one a revision from revision 2 on
abbrev pub one_a_revision : Extent → ℕ → List Addition
one_a_revision hull zero = []
one_a_revision hull (suc count) = record { revision = count + 2; hull = hull } ∷ one_a_revision hull count
