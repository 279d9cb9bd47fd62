-- The item that a patch makes of an item: its tree is merged with the patch (RFC 7396), and read in the item's collection.
use Rattle.std.specs.Prelude.{◌≡◌, Result, Ok, Err}
use Rattle.sc_json.specs.declared.tree.Json.{Json}
use Rattle.sc_item.specs.declared.fault.ItemFault.{ItemFault}
use Rattle.sc_item.specs.declared.fault.ItemFault.TheVariants.{NotAFeature, BadId, WrongCollection, BadTime, BadGeometry, OutOfMemory}
use Rattle.sc_item.specs.Feature.{Feature}
use Rattle.sc_item.specs.Reading.{IsItem}
use Rattle.sc_item.specs.Patch.{Patched}
use Rattle.sc_load.specs.Items.{CannotReplace}

-- the merged tree is the new item, which has the id of the old one
pub record IsPatched (item : Feature) (patch : Json) (new : Feature) : Type 0 where
  pub merged : Json
  pub merged_is : Patched item.tree patch merged
  pub item_is : IsItem item.collection merged new
  pub id_is : new.id ≡ item.id

-- the merged tree can't stand in the item's place
pub record IsBadPatch (item : Feature) (patch : Json) (fault : ItemFault) : Type 0 where
  pub merged : Json
  pub merged_is : Patched item.tree patch merged
  pub cannot : CannotReplace item.collection item.id merged fault

-- what patching answers; want of memory says nothing
abbrev pub PatchAnswers : Feature → Json → Result Feature ItemFault → Type 0
PatchAnswers item patch (Ok new) = IsPatched item patch new
PatchAnswers item patch (Err NotAFeature) = IsBadPatch item patch NotAFeature
PatchAnswers item patch (Err BadId) = IsBadPatch item patch BadId
PatchAnswers item patch (Err WrongCollection) = IsBadPatch item patch WrongCollection
PatchAnswers item patch (Err BadTime) = IsBadPatch item patch BadTime
PatchAnswers item patch (Err (BadGeometry fault)) = IsBadPatch item patch (BadGeometry fault)
PatchAnswers item patch (Err OutOfMemory) = Unit {0}
