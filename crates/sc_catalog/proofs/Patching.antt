-- What patching an item answers, as what a load puts.
use Rattle.std.proofs.Common.{◌≡◌, ℕ, true, List, Some, None, Result, Ok, Err, sym, ap, ◌∙◌}
use Rattle.std.specs.Option.{is_some}
use Rattle.std.specs.declared.alloc.Global.{Global}
use Rattle.std.specs.declared.sync.Arc.{Arc}
use Rattle.std.specs.declared.vec.Vec.{Vec}
use Rattle.sc_json.specs.declared.tree.Json.{Json}
use Rattle.sc_item.specs.Feature.{Feature}
use Rattle.sc_item.specs.declared.fault.ItemFault.{ItemFault}
use Rattle.sc_item.specs.declared.fault.ItemFault.TheVariants.{NotAFeature, BadId, WrongCollection, BadTime, BadGeometry}
use Rattle.sc_item.specs.declared.fault.ItemFault.TheVariants as items
use Rattle.sc_load.specs.declared.load.Load.TheVariants.{Patch}
use Rattle.sc_load.specs.declared.fault.LoadFault.{LoadFault}
use Rattle.sc_load.specs.declared.fault.LoadFault.TheVariants.{NoCollection, CollectionExists, ItemExists, NoItem, DuplicateInLoad, BadPatch, HistoryFull, PartitionsFull, CollectionsFull, OutOfMemory}
use Rattle.sc_load.specs.Patches.{PatchAnswers}
use Rattle.sc_history.specs.Content.{is_item, item_in, has_item}
use Rattle.sc_catalog.specs.Answers.{AnswersCome, AnswersPatch, patch_fault}
use Rattle.sc_history.proofs.Texts.{never}
use Rattle.sc_catalog.proofs.Looking.{some_found}

pub bad_answer : (old : Feature) (patch : Json) (fault : ItemFault) → PatchAnswers old patch (Err fault) → AnswersPatch old patch (Err (patch_fault fault))
bad_answer old patch NotAFeature is = is
bad_answer old patch BadId is = is
bad_answer old patch WrongCollection is = is
bad_answer old patch BadTime is = is
bad_answer old patch (BadGeometry fault) is = is
bad_answer old patch items.OutOfMemory is = is

-- of the collection's item with the id
pub patch_come : (content : List Feature) (collection id : List ℕ) (patch : Json) (old : Feature) (result : Result (Vec (Arc Feature Global) Global) LoadFault) → item_in content collection id ≡ Some old → AnswersPatch old patch result
    → AnswersCome content (Patch collection id patch) result
patch_come content collection id patch old (Ok come) there is = record { old = old; new = is.new; there = there; patched = is.patched; come_is = is.come_is }
patch_come content collection id patch old (Err NoCollection) there is = is
patch_come content collection id patch old (Err CollectionExists) there is = is
patch_come content collection id patch old (Err (ItemExists other)) there is = is
patch_come content collection id patch old (Err (NoItem other)) there is = is
patch_come content collection id patch old (Err (DuplicateInLoad other)) there is = is
patch_come content collection id patch old (Err (BadPatch fault)) there is = record { old = old; there = there; bad = is }
patch_come content collection id patch old (Err (HistoryFull entries bytes)) there is = is
patch_come content collection id patch old (Err (PartitionsFull count)) there is = is
patch_come content collection id patch old (Err (CollectionsFull count)) there is = is
patch_come content collection id patch old (Err OutOfMemory) there is = is

-- an item that is there is found
pub not_missing : {R : Type 0} (content : List Feature) (collection id : List ℕ) → has_item content collection id ≡ true → None ≡ item_in content collection id → R
not_missing content collection id has none =
    never (is_some (item_in content collection id)) (some_found (is_item collection id) content ∙ has) (ap is_some (sym none))
