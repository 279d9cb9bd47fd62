-- The tree of an item's document, and what is wrong with a patched one.
use Rattle.std.proofs.Common.{◌≡◌, ℕ, List, false, Err, refl, subst, ◌∙◌}
use Rattle.sc_json.specs.declared.tree.Json.{Json}
use Rattle.sc_json.specs.Compact.{compact}
use Rattle.sc_json.specs.Spells.{Spells}
use Rattle.sc_json.proofs.Spelled.{spelled_once}
use Rattle.sc_json.proofs.Written.{written_spells}
use Rattle.sc_item.specs.declared.fault.ItemFault.{ItemFault}
use Rattle.sc_item.specs.declared.fault.ItemFault.TheVariants.{NotAFeature, BadId, WrongCollection, BadTime, BadGeometry, OutOfMemory}
use Rattle.sc_item.specs.Feature.{Feature, IsKept}
use Rattle.sc_item.specs.Memory.{is_memory}
use Rattle.sc_item.specs.Patch.{Patched}
use Rattle.sc_item.specs.Reading.{IsItem, IsFault}
use Rattle.sc_load.specs.declared.fault.PrepareFault.{PrepareFault}
use Rattle.sc_load.specs.declared.fault.PrepareFault.TheVariants as prepare
use Rattle.sc_load.specs.Items.{unread, renamed}
use Rattle.sc_load.specs.Patches.{IsBadPatch, PatchAnswers}
use Rattle.sc_load.specs.Prepared.{IsItemFault, IsReplaceFault}

pub own_tree : (bytes : List ℕ) (item : Feature) (tree : Json) → Spells bytes tree → bytes ≡ item.doc → IsKept item → tree ≡ item.tree
own_tree bytes item tree s is k =
    let again : Spells (compact item.tree) tree = subst (λ (b : List ℕ). Spells b tree) (is ∙ k.doc) s in
    let own = written_spells item.tree k.good in
    spelled_once (compact item.tree) tree item.tree again.text own.text

-- a fault of the merged tree
bad_patch : (item : Feature) (patch merged : Json) (fault : ItemFault) → Patched item.tree patch merged → is_memory fault ≡ false → IsFault item.collection merged fault → IsBadPatch item patch fault
bad_patch item patch merged fault p told f = record {
  merged = merged;
  merged_is = p;
  cannot = unread fault (record { fault_is = f; told = told });
}

faulty : (item : Feature) (patch merged : Json) (fault : ItemFault) → Patched item.tree patch merged → IsFault item.collection merged fault → PatchAnswers item patch (Err fault)
faulty item patch merged NotAFeature p f = bad_patch item patch merged NotAFeature p refl f
faulty item patch merged BadId p f = bad_patch item patch merged BadId p refl f
faulty item patch merged WrongCollection p f = bad_patch item patch merged WrongCollection p refl f
faulty item patch merged BadTime p f = bad_patch item patch merged BadTime p refl f
faulty item patch merged (BadGeometry g) p f = bad_patch item patch merged (BadGeometry g) p refl f
faulty item patch merged OutOfMemory p f = tt

pub faulty_patch : (item : Feature) (patch tree merged : Json) (collection : List ℕ) (fault : ItemFault) → tree ≡ item.tree → Patched tree patch merged → collection ≡ item.collection →
    IsFault collection merged fault → PatchAnswers item patch (Err fault)
faulty_patch item patch tree merged collection fault t p c f =
    faulty item patch merged fault (subst (λ (x : Json). Patched x patch merged) t p) (subst (λ (x : List ℕ). IsFault x merged fault) c f)

pub renaming_patch : (item : Feature) (patch tree merged : Json) (collection : List ℕ) (new : Feature) → tree ≡ item.tree → Patched tree patch merged → collection ≡ item.collection →
    IsItem collection merged new → (new.id ≡ item.id → ⊥) → IsBadPatch item patch BadId
renaming_patch item patch tree merged collection new t p c i other = record {
  merged = merged;
  merged_is = subst (λ (x : Json). Patched x patch merged) t p;
  cannot = renamed new (subst (λ (x : List ℕ). IsItem x merged new) c i) other;
}

-- ---- replacements

pub unread_replacement : (collection id : List ℕ) (tree : Json) (fault : PrepareFault) → IsItemFault collection tree 0 fault → IsReplaceFault collection id tree fault
unread_replacement collection id tree (prepare.BadItem place fault) f = (f.0, unread fault f.1)
unread_replacement collection id tree (prepare.TooManyItems count) f = absurd f
unread_replacement collection id tree prepare.BadCollection f = absurd f
unread_replacement collection id tree prepare.OutOfMemory f = tt
