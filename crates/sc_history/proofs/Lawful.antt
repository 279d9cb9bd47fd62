-- The laws in the order of their clauses.
use Rattle.std.proofs.Common.{◌≡◌, ◌↔◌, ℕ, true, false, List, ◌∷◌, find, Some, None, Contains, IsPermutation, flat_map, map}
use Rattle.std.specs.List.{All}
use Rattle.std.proofs.lemmas.List.Elements.{All-contains, All-from_recursion}
use Rattle.sc_bounds.specs.Extent.{Extent}
use Rattle.sc_bounds.specs.Sets.{IsWithin}
use Rattle.sc_item.specs.Feature.{Feature}
use Rattle.sc_cut.specs.declared.name.PartName.{PartName}
use Rattle.sc_load.specs.declared.load.Load.{Load}
use Rattle.sc_load.specs.Load.{IsItemOf}
use Rattle.sc_history.specs.Content.{Collection, Content, IsContent, has_item, is_called, is_made}
use Rattle.sc_history.specs.Changes.{Change, apply}
use Rattle.sc_history.specs.Names.{ArePartsOf, Fits, belongs, fits, is_cut, has_cut}
use Rattle.sc_history.specs.History.{replay, back}
use Rattle.sc_history.specs.Refusals.{IsAllowed}
use Rattle.sc_history.specs.Taken.{IsPast}
use Rattle.sc_history.specs.Part.{Part}
use Rattle.sc_history.specs.Touch.{ArePublished}
use Rattle.sc_history.specs.Sound.{Sound, Stand, StandsAs}
use Rattle.sc_history.specs.Installs.{AreInstalled, bounds_after}
use Rattle.sc_history.specs.Views.{IsTight}
use Rattle.sc_history.proofs.Lists.{ascending_from_pairs}
use Rattle.sc_history.proofs.Contents.{content_after}
use Rattle.sc_history.proofs.Keys.{fits_is, is_fits, item_instant}
use Rattle.sc_history.proofs.Standing.{stand_next}
use Rattle.sc_history.proofs.Pasts.{back_past, past_content, past_next}
use Rattle.sc_history.proofs.Installing.{stand_installed, stands_installed}
use Rattle.sc_history.proofs.Belonging.{AreTwo, cut_found, cut_missing, each_stands, one_part, part_there, stand_has, stand_items}
use Rattle.sc_history.proofs.Finding.{names_after}

pub change_content : (content : Content) (change : Change) → IsContent content → IsAllowed content change → IsContent (apply content change)
change_content content change is allowed = content_after content change allowed is

pub earlier_past : (past : List Change) (revision : ℕ) → IsPast past → IsPast (back revision past)
earlier_past past revision is = back_past past revision is

pub fits_test : (name : PartName) (item : Feature) → IsItemOf item.collection item → (fits name item ≡ true) ↔ Fits name item
fits_test name item is = let at = item_instant item.collection item.tree item is in (fits_is name item at, is_fits name item at)

read_of : (content : Content) (item : Feature) → IsContent content → Contains content.items item → IsItemOf item.collection item
read_of content item is there = All-contains (λ i. IsItemOf i.collection i) content.items item is.read there

pub item_part : (content : Content) (item : Feature) → IsContent content → Contains content.items item → (name : PartName) × (belongs content.collections name item ≡ true)
item_part content item is there = part_there content item (All-contains (λ i. is_made content.collections i.collection ≡ true) content.items item is.housed there) (read_of content item is there)

pub item_one_part : (content : Content) (item : Feature) (one other : PartName) → IsContent content → Contains content.items item → belongs content.collections one item ≡ true → belongs content.collections other item ≡ true → one ≡ other
item_one_part content item one other is there e f = one_part content one other item is (read_of content item is there) e f

pub cut_is : (content : Content) (name : PartName) (collection : Collection) → IsContent content → find (is_called name.collection) content.collections ≡ Some collection → has_cut content.collections name ≡ is_cut collection.cut name.cut
cut_is content name collection is e = cut_found content.collections name.collection name.cut collection (ascending_from_pairs AreTwo content.collections is.collections_apart) e

pub no_cut : (content : Content) (name : PartName) → find (is_called name.collection) content.collections ≡ None → has_cut content.collections name ≡ false
no_cut content name e = cut_missing content.collections name.collection name.cut e

pub each_part : (past : List Change) (parts : List Part) → Stand past parts → All (λ part. StandsAs past part.name part) parts
each_part past parts stand = All-from_recursion (λ part. StandsAs past part.name part) parts (each_stands past parts stand)

pub all_items : (past : List Change) (parts : List Part) → IsPast past → Stand past parts → IsPermutation (replay past).items (flat_map (λ part. part.items) parts)
all_items past parts is stand = stand_items past parts (past_content past is) stand

pub each_item : (past : List Change) (parts : List Part) (collection id : List ℕ) → IsPast past → Stand past parts → has_item (replay past).items collection id ≡ has_item (flat_map (λ part. part.items) parts) collection id
each_item past parts collection id is stand = stand_has past parts collection id (past_content past is) stand

pub stand_after : (past : List Change) (change : Change) (old new : List Part) → IsPast past → IsAllowed (replay past) change → Stand past old → ArePublished past change old new → Stand (change ∷ past) new
stand_after past change old new is allowed stand are = stand_next past change old new (past_next past change is allowed) stand are

pub parts_after_load : (past : List Change) (change : Change) (old new : List Part) → IsPast past → IsAllowed (replay past) change → Stand past old → ArePublished past change old new → ArePartsOf (apply (replay past) change) (map (λ part. part.name) new)
parts_after_load past change old new is allowed stand are = names_after past change old new (past_next past change is allowed) stand are

pub install_stands : (past : List Change) (name : PartName) (stamp : ℕ) (hull : Extent) (old new : List Part) → IsPast past → Stand past old → IsTight past name stamp hull → AreInstalled name stamp hull old new → Stand past new
install_stands past name stamp hull old new is stand tight are = stand_installed past name stamp hull old new is stand tight are

pub install_sound : (history : List Load) (collections : List Collection) (name : PartName) (stamp : ℕ) (hull : Extent) (old new : List Part) (is : Sound history collections old) → IsTight is.past name stamp hull → AreInstalled name stamp hull old new → Sound history collections new
install_sound history collections name stamp hull old new is tight are = record {
  past = is.past;
  told = is.told;
  collections_are = is.collections_are;
  stand = stand_installed is.past name stamp hull old new is.told.accepted is.stand tight are;
}

pub install_narrows : (past : List Change) (name : PartName) (stamp : ℕ) (hull : Extent) (part : Part) → IsPast past → StandsAs past name part → IsTight past name stamp hull → IsWithin (bounds_after stamp hull part) part.bounds
install_narrows past name stamp hull part is old tight = (stands_installed past name stamp hull part is old tight).1
