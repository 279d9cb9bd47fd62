-- A patch makes one tree of a tree, so a load puts the same items into a content whenever it is read.
use Rattle.std.proofs.Common.{◌≡◌, ℕ, List, [], ◌∷◌, ◌++◌, Some, refl, sym, ap, ◌∙◌, subst}
use Rattle.sc_json.specs.declared.tree.Json.{Json}
use Rattle.sc_json.specs.declared.tree.Json.TheVariants.{Null, Object}
use Rattle.sc_json.specs.declared.tree.Member.{Member, out-Member}
use Rattle.sc_json.specs.Grammar.{member}
use Rattle.sc_item.specs.Trees.{members_in}
use Rattle.sc_item.specs.Feature.{Feature}
use Rattle.sc_item.specs.Reading.{IsItem}
use Rattle.sc_item.specs.Patch.{Patched, replaced, merged, Leaves, same, removed, changed, AreKept, none_kept, one_kept, Adds, known, nothing, new, AreAdded, none_added, one_added}
use Rattle.sc_item.proofs.Lines.{one_reading}
use Rattle.sc_load.specs.declared.load.Load.{Load}
use Rattle.sc_load.specs.declared.load.Load.TheVariants.{AddCollection, DropCollection, Insert, Upsert, Replace, Patch, Delete}
use Rattle.sc_load.specs.Patches.{IsPatched}
use Rattle.sc_history.specs.Changes.{Patches, Puts}

mutual
  one_patched : (target patch r s : Json) → Patched target patch r → Patched target patch s → r ≡ s
  one_patched target patch _ _ (replaced _ _ isnt) (replaced _ _ isnt') = refl
  one_patched target patch _ _ (replaced _ _ isnt) (merged _ _ kept added is k a) = absurd cc
  one_patched target patch _ _ (merged _ _ kept added is k a) (replaced _ _ isnt) = absurd cc
  one_patched target patch _ _ (merged _ _ kept added is k a) (merged _ _ kept' added' is' k' a') =
      let first : kept ≡ kept' = one_kept_list (members_in patch) (members_in target) (members_in target) kept kept' refl k k' in
      let rest : added ≡ added' = one_added_list (members_in target) (members_in patch) (members_in patch) added added' refl a a' in
      λ i. Object (first i ++ rest i)

  one_left : (changes front front' : List Member) (m : Member) → Leaves changes m front → Leaves changes m front' → front ≡ front'
  one_left changes _ _ m (same _ _ e) (same _ _ e') = refl
  one_left changes _ _ m (same _ _ e) (removed _ _ value e' is) = absurd cc
  one_left changes _ _ m (same _ _ e) (changed _ _ value v e' isnt p) = absurd cc
  one_left changes _ _ m (removed _ _ value e is) (same _ _ e') = absurd cc
  one_left changes _ _ m (removed _ _ value e is) (removed _ _ value' e' is') = refl
  one_left changes _ _ m (removed _ _ value e is) (changed _ _ value' v e' isnt p) = let one : value ≡ value' = cc in absurd cc
  one_left changes _ _ m (changed _ _ value v e isnt p) (same _ _ e') = absurd cc
  one_left changes _ _ m (changed _ _ value v e isnt p) (removed _ _ value' e' is') = let one : value ≡ value' = cc in absurd cc
  one_left changes _ _ m (changed _ _ value v e isnt p) (changed _ _ value' v' e' isnt' p') =
      let one : value ≡ value' = cc in
      let made : v ≡ v' = one_patched (out-Member m).value value' v v' (subst (λ (x : Json). Patched (out-Member m).value x v) one p) p' in
      λ i. member (out-Member m).name (made i) ∷ []

  one_kept_list : (changes ms ms' kept kept' : List Member) → ms ≡ ms' → AreKept changes ms kept → AreKept changes ms' kept' → kept ≡ kept'
  one_kept_list changes _ _ _ _ e (none_kept _) (none_kept _) = refl
  one_kept_list changes _ _ _ _ e (none_kept _) (one_kept _ ms front rest m l others) = absurd cc
  one_kept_list changes _ _ _ _ e (one_kept _ ms front rest m l others) (none_kept _) = absurd cc
  one_kept_list changes _ _ _ _ e (one_kept _ ms front rest m l others) (one_kept _ ms' front' rest' m' l' others') =
      let first : m ≡ m' = cc in
      let behind : ms ≡ ms' = cc in
      let here : front ≡ front' = one_left changes front front' m' (subst (λ (x : Member). Leaves changes x front) first l) l' in
      let later : rest ≡ rest' = one_kept_list changes ms ms' rest rest' behind others others' in
      λ i. here i ++ later i

  one_add : (ms front front' : List Member) (change : Member) → Adds ms change front → Adds ms change front' → front ≡ front'
  one_add ms _ _ change (known _ _ e) (known _ _ e') = refl
  one_add ms _ _ change (known _ _ e) (nothing _ _ e' is) = refl
  one_add ms _ _ change (known _ _ e) (new _ _ v e' isnt p) = absurd cc
  one_add ms _ _ change (nothing _ _ e is) (known _ _ e') = refl
  one_add ms _ _ change (nothing _ _ e is) (nothing _ _ e' is') = refl
  one_add ms _ _ change (nothing _ _ e is) (new _ _ v e' isnt p) = absurd cc
  one_add ms _ _ change (new _ _ v e isnt p) (known _ _ e') = absurd cc
  one_add ms _ _ change (new _ _ v e isnt p) (nothing _ _ e' is) = absurd cc
  one_add ms _ _ change (new _ _ v e isnt p) (new _ _ v' e' isnt' p') =
      let made : v ≡ v' = one_patched Null (out-Member change).value v v' p p' in
      λ i. member (out-Member change).name (made i) ∷ []

  one_added_list : (ms changes changes' added added' : List Member) → changes ≡ changes' → AreAdded ms changes added → AreAdded ms changes' added' → added ≡ added'
  one_added_list ms _ _ _ _ e (none_added _) (none_added _) = refl
  one_added_list ms _ _ _ _ e (none_added _) (one_added _ changes front rest m a others) = absurd cc
  one_added_list ms _ _ _ _ e (one_added _ changes front rest m a others) (none_added _) = absurd cc
  one_added_list ms _ _ _ _ e (one_added _ changes front rest m a others) (one_added _ changes' front' rest' m' a' others') =
      let first : m ≡ m' = cc in
      let behind : changes ≡ changes' = cc in
      let here : front ≡ front' = one_add ms front front' m' (subst (λ (x : Member). Adds ms x front) first a) a' in
      let later : rest ≡ rest' = one_added_list ms changes changes' rest rest' behind others others' in
      λ i. here i ++ later i

pub patched_once : (target patch r s : Json) → Patched target patch r → Patched target patch s → r ≡ s
patched_once = one_patched

-- one item is made of an item by a patch
item_once : (old : Feature) (patch : Json) (a b : Feature) → IsPatched old patch a → IsPatched old patch b → a ≡ b
item_once old patch a b p q =
    let tree : p.merged ≡ q.merged = one_patched old.tree patch p.merged q.merged p.merged_is q.merged_is in
    one_reading old.collection q.merged a b (subst (λ (t : Json). IsItem old.collection t a) tree p.item_is) q.item_is

one_found : {A : Type 0} (a b : A) → Some a ≡ Some b → a ≡ b
one_found a b e = cc

patches_once : (items : List Feature) (collection id : List ℕ) (patch : Json) (come others : List Feature) → Patches items collection id patch come → Patches items collection id patch others → come ≡ others
patches_once items collection id patch come others p q =
    let old : p.old ≡ q.old = one_found p.old q.old (sym p.there ∙ q.there) in
    let new : p.new ≡ q.new = item_once q.old patch p.new q.new (subst (λ o. IsPatched o patch p.new) old p.patched) q.patched in
    p.come_is ∙ ap (λ i. i ∷ []) new ∙ sym q.come_is

-- a load puts one list of items into a content
pub puts_once : (items : List Feature) (load : Load) (come others : List Feature) → Puts items load come → Puts items load others → come ≡ others
puts_once items (AddCollection id cut tree) come others p q = p ∙ sym q
puts_once items (DropCollection id) come others p q = p ∙ sym q
puts_once items (Insert collection items') come others p q = p ∙ sym q
puts_once items (Upsert collection items') come others p q = p ∙ sym q
puts_once items (Replace collection item) come others p q = p ∙ sym q
puts_once items (Patch collection id patch) come others p q = patches_once items collection id patch come others p q
puts_once items (Delete collection id) come others p q = p ∙ sym q
