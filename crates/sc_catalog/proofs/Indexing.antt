-- An index of a content's items, after a load.
use Rattle.std.proofs.Common.{◌≡◌, ℕ, Bool, true, false, cond, ◌&&◌, ◌||◌, List, [], ◌∷◌, Option, Some, None, refl, sym, ap, ◌∙◌, bytes_eq}
use Rattle.std.specs.Option.{is_some, option_or}
use Rattle.std.specs.List.{AllByRecursion, list_any}
use Rattle.std.proofs.lemmas.Bool.{and_parts}
use Rattle.sc_item.specs.Feature.{Feature}
use Rattle.sc_json.specs.declared.tree.Json.{Json}
use Rattle.sc_load.specs.declared.load.Load.{Load}
use Rattle.sc_load.specs.declared.load.Load.TheVariants.{AddCollection, DropCollection, Insert, Upsert, Replace, Patch, Delete}
use Rattle.sc_load.specs.Load.{IsWellFormed, collection_of}
use Rattle.sc_index.specs.declared.index.ItemIndex.{ItemIndex}
use Rattle.sc_index.specs.Found.{Indexes, found}
use Rattle.sc_history.specs.Content.{Content, is_item, item_in}
use Rattle.sc_history.specs.Changes.{Patches, Puts, apply, ids_of, is_among, takes}
use Rattle.sc_history.proofs.Texts.{never, same_text, text_test, text_turn}
use Rattle.sc_history.proofs.Contents.{IsOwn, find_some, puts_own}
use Rattle.sc_history.proofs.Finding.{item_after}
use Rattle.sc_catalog.specs.Made.{puts}
use Rattle.sc_catalog.proofs.Looking.{some_found}

either_way : (o x y : Option Feature) → (is_some o ≡ false → x ≡ y) → option_or o x ≡ option_or o y
either_way None x y e = e refl
either_way (Some a) x y e = refl

-- an item that comes is found, where its id is among those of the items that come
come_found : (collection other id : List ℕ) (come : List Feature) → AllByRecursion (IsOwn collection) come → other ≡ collection → is_among (ids_of come) id ≡ true → list_any (is_item other id) come ≡ true
come_found collection other id [] own same e = never false e refl
come_found collection other id (x ∷ come) own same e = go (bytes_eq x.id id) refl (come_found collection other id come own.1 same) e
  where
    of : bytes_eq x.collection other ≡ true
    of = text_test x.collection other (own.0.0 ∙ sym same)

    or_more : (a b : Bool) → b ≡ true → (a || b) ≡ true
    or_more true b e = refl
    or_more false b e = e

    go : (b : Bool) → bytes_eq x.id id ≡ b → (is_among (ids_of come) id ≡ true → list_any (is_item other id) come ≡ true) → (b || is_among (ids_of come) id) ≡ true → (is_item other id x || list_any (is_item other id) come) ≡ true
    go true is more e = rw (of, is) refl
    go false is more e = or_more (is_item other id x) _ (more e)

-- each id that the load takes is that of an item that comes
abbrev Covers : Load → List Feature → Type 0
Covers load come = (id : List ℕ) → takes load id ≡ true → is_among (ids_of come) id ≡ true

covers_patch : (items : List Feature) (collection id : List ℕ) (patch : Json) (come : List Feature) → Patches items collection id patch come → Covers (Patch collection id patch) come
covers_patch items collection id patch come p other e =
    let both = and_parts (bytes_eq p.old.collection collection) (bytes_eq p.old.id id) (find_some (is_item collection id) items p.old p.there) in
    let same : id ≡ p.new.id = sym (p.patched.id_is ∙ same_text p.old.id id both.1) in
    ap (λ l. is_among (ids_of l) other) p.come_is ∙ (ap (λ i. bytes_eq i other || false) (sym same) ∙ e)

covers : (items : List Feature) (load : Load) (come : List Feature) → puts load ≡ true → Puts items load come → Covers load come
covers items (AddCollection id cut tree) come e p other t = never false t refl
covers items (DropCollection id) come e p other t = never false e refl
covers items (Insert collection new) come e p other t = never false t refl
covers items (Upsert collection new) come e p other t = ap (λ l. is_among (ids_of l) other) p ∙ t
covers items (Replace collection new) come e p other t = ap (λ l. is_among (ids_of l) other) p ∙ t
covers items (Patch collection id patch) come e p other t = covers_patch items collection id patch come p other t
covers items (Delete collection id) come e p other t = never false e refl

-- where the items that come are put
pub put_after : (content : Content) (load : Load) (come : List Feature) (old new : ItemIndex) → IsWellFormed load → puts load ≡ true → Puts content.items load come → Indexes content.items old
    → ((collection id : List ℕ) → found new collection id ≡ option_or (item_in come collection id) (found old collection id)) → Indexes (apply content (record { load = load; come = come })).items new
put_after content load come old new formed e p is put = record {
  each = λ collection id.
      put collection id ∙ (ap (option_or (item_in come collection id)) (is.each collection id)
      ∙ (either_way (item_in come collection id) (item_in content.items collection id) (cond (bytes_eq collection (collection_of load) && takes load id) None (item_in content.items collection id)) (λ none. go collection id none (bytes_eq collection (collection_of load) && takes load id) refl)
      ∙ sym (item_after content (record { load = load; come = come }) collection id)));
}
  where
    go : (collection id : List ℕ) → is_some (item_in come collection id) ≡ false → (b : Bool) → (bytes_eq collection (collection_of load) && takes load id) ≡ b → item_in content.items collection id ≡ cond b None (item_in content.items collection id)
    go collection id none false t = refl
    go collection id none true t =
        let both = and_parts (bytes_eq collection (collection_of load)) (takes load id) t in
        never (is_some (item_in come collection id))
        (some_found (is_item collection id) come ∙ come_found (collection_of load) collection id come (puts_own content.items load come formed p) (same_text collection (collection_of load) both.0) (covers content.items load come e p id both.1)) none

-- where the item with an id is taken out
pub delete_after : (content : Content) (collection id : List ℕ) (come : List Feature) (old new : ItemIndex) → Puts content.items (Delete collection id) come → Indexes content.items old
    → ((other name : List ℕ) → found new other name ≡ cond (bytes_eq other collection && bytes_eq name id) None (found old other name)) → Indexes (apply content (record { load = Delete collection id; come = come })).items new
delete_after content collection id come old new p is left = record {
  each = λ other name.
      left other name ∙ (ap (λ o. cond (bytes_eq other collection && bytes_eq name id) None o) (is.each other name)
      ∙ (ap (λ b. cond (bytes_eq other collection && b) None (item_in content.items other name)) (text_turn name id ∙ last (bytes_eq id name))
      ∙ (ap (λ l. option_or (item_in l other name) (cond (bytes_eq other collection && (bytes_eq id name || false)) None (item_in content.items other name))) (sym p)
      ∙ sym (item_after content (record { load = Delete collection id; come = come }) other name))));
}
  where
    last : (b : Bool) → b ≡ (b || false)
    last true = refl
    last false = refl

-- where the collection goes
pub drop_after : (content : Content) (collection : List ℕ) (come : List Feature) (old new : ItemIndex) → Puts content.items (DropCollection collection) come → Indexes content.items old
    → ((other name : List ℕ) → found new other name ≡ cond (bytes_eq other collection) None (found old other name)) → Indexes (apply content (record { load = DropCollection collection; come = come })).items new
drop_after content collection come old new p is left = record {
  each = λ other name.
      left other name ∙ (ap (λ o. cond (bytes_eq other collection) None o) (is.each other name)
      ∙ (ap (λ b. cond b None (item_in content.items other name)) (last (bytes_eq other collection))
      ∙ (ap (λ l. option_or (item_in l other name) (cond (bytes_eq other collection && true) None (item_in content.items other name))) (sym p)
      ∙ sym (item_after content (record { load = DropCollection collection; come = come }) other name))));
}
  where
    last : (b : Bool) → b ≡ (b && true)
    last true = refl
    last false = refl
