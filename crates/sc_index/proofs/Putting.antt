-- What is found among items that are put one after the other, the last of a list first.
use Rattle.std.proofs.Common.{◌≡◌, ℕ, Bool, true, false, cond, List, [], ◌∷◌, ◌++◌, Option, Some, None, map, find, refl, sym, ap, ◌∙◌, bytes_eq}
use Rattle.std.specs.Option.{is_some, option_or, option_and_then}
use Rattle.std.specs.List.{AllByRecursion, All}
use Rattle.std.specs.Arc.{arc_value}
use Rattle.std.specs.BTreeMap.{BTreeMap, get}
use Rattle.std.specs.Ordering.{is_eq}
use Rattle.std.specs.Cmp.Lexicographic.{bytes_decides}
use Rattle.std.proofs.lemmas.List.Elements.{recursion_from_All}
use Rattle.std.specs.declared.alloc.Global.{Global}
use Rattle.std.specs.declared.sync.Arc.{Arc}
use Rattle.sc_base.specs.Text.{text_order}
use Rattle.sc_item.specs.Feature.{Feature}
use Rattle.sc_history.specs.Content.{item_in}
use Rattle.sc_index.specs.Found.{Places, held}
use Rattle.sc_index.proofs.Placing.{same_place, text_at}

-- the item has the id
abbrev pub has_id : List ℕ → Feature → Bool
has_id id item = bytes_eq item.id id

-- the first of the items that has the id
abbrev pub first_with : List ℕ → List (Arc Feature Global) → Option Feature
first_with id items = find (has_id id) (map arc_value items)

first_pushed : (id : List ℕ) (items : List (Arc Feature Global)) (last : Arc Feature Global) (other : Option Feature) → option_or (first_with id (items ++ last ∷ [])) other ≡ option_or (first_with id items) (cond (has_id id (arc_value last)) (Some (arc_value last)) other)
first_pushed id [] last other = go (has_id id (arc_value last))
  where
    go : (b : Bool) → option_or (cond b (Some (arc_value last)) None) other ≡ cond b (Some (arc_value last)) other
    go true = refl
    go false = refl
first_pushed id (x ∷ items) last other = go (has_id id (arc_value x)) (first_pushed id items last other)
  where
    rest : Option Feature
    rest = cond (has_id id (arc_value last)) (Some (arc_value last)) other

    go : (b : Bool) → option_or (first_with id (items ++ last ∷ [])) other ≡ option_or (first_with id items) rest
        → option_or (cond b (Some (arc_value x)) (first_with id (items ++ last ∷ []))) other ≡ option_or (cond b (Some (arc_value x)) (first_with id items)) rest
    go true more = refl
    go false more = more

-- where the last one is put, the others are left
pub put_step : (id : List ℕ) (items : List (Arc Feature Global)) (last : Arc Feature Global) (old new all : Option Feature)
    → new ≡ cond (has_id id (arc_value last)) (Some (arc_value last)) old → option_or (first_with id (items ++ last ∷ [])) old ≡ all → option_or (first_with id items) new ≡ all
put_step id items last old new all is e = ap (λ o. option_or (first_with id items) o) is ∙ (sym (first_pushed id items last old) ∙ e)

-- where a collection gets places that hold nothing, all that is found stays
pub collection_made : (old new : BTreeMap (List ℕ) Places) (collection other id : List ℕ) (empty : Places) → empty.entries ≡ [] → is_some (get text_order old collection) ≡ false
    → get text_order new other ≡ cond (is_eq (text_order collection other)) (Some empty) (get text_order old other) → option_and_then (λ places. held places id) (get text_order new other) ≡ option_and_then (λ places. held places id) (get text_order old other)
collection_made old new collection other id empty bare none now = go (is_eq (text_order collection other)) refl now
  where
    nowhere : (o : Option Places) → is_some o ≡ false → None ≡ option_and_then (λ places. held places id) o
    nowhere None e = refl
    nowhere (Some places) e = absurd cc

    nothing : held empty id ≡ None
    nothing = rw bare refl

    go : (b : Bool) → is_eq (text_order collection other) ≡ b → get text_order new other ≡ cond b (Some empty) (get text_order old other)
        → option_and_then (λ places. held places id) (get text_order new other) ≡ option_and_then (λ places. held places id) (get text_order old other)
    go false e put = rw put refl
    go true e put = ap (option_and_then (λ places. held places id)) put ∙ (nothing ∙ (nowhere (get text_order old collection) none ∙ ap (λ c. option_and_then (λ places. held places id) (get text_order old c)) (sym (same_place collection other e))))

-- where the places of a collection hold what they held, all that is found stays
pub places_found : (old new : BTreeMap (List ℕ) Places) (collection other id : List ℕ) (before after : Places) → get text_order old collection ≡ Some before
    → get text_order new other ≡ cond (is_eq (text_order collection other)) (Some after) (get text_order old other) → held after id ≡ held before id
    → option_and_then (λ places. held places id) (get text_order new other) ≡ option_and_then (λ places. held places id) (get text_order old other)
places_found old new collection other id before after was now same = go (is_eq (text_order collection other)) refl now
  where
    go : (b : Bool) → is_eq (text_order collection other) ≡ b → get text_order new other ≡ cond b (Some after) (get text_order old other)
        → option_and_then (λ places. held places id) (get text_order new other) ≡ option_and_then (λ places. held places id) (get text_order old other)
    go false e put = rw put refl
    go true e put = rw (put, same_place collection other e, was) same

-- ---- the items of one collection, found among all

found_of : (collection id : List ℕ) (items : List Feature) → AllByRecursion (λ item. item.collection ≡ collection) items → item_in items collection id ≡ find (has_id id) items
found_of collection id [] all = refl
found_of collection id (x ∷ items) all =
    let same : bytes_eq x.collection collection ≡ true = (bytes_decides x.collection collection).1 all.0 in
    rw same (ap (λ o. cond (has_id id x) (Some x) o) (found_of collection id items all.1))

found_elsewhere : (collection other id : List ℕ) (items : List Feature) → AllByRecursion (λ item. item.collection ≡ collection) items → bytes_eq collection other ≡ false → item_in items other id ≡ None
found_elsewhere collection other id [] all apart = refl
found_elsewhere collection other id (x ∷ items) all apart =
    let same : bytes_eq x.collection other ≡ false = rw all.0 apart in
    rw same (found_elsewhere collection other id items all.1 apart)

-- where the items of one collection are put, by a look-up of the collection and then one of the id
pub put_found : (old new : BTreeMap (List ℕ) Places) (collection other id : List ℕ) (before after : Places) (items : List Feature) → All (λ item. item.collection ≡ collection) items
    → get text_order old collection ≡ Some before → get text_order new other ≡ cond (is_eq (text_order collection other)) (Some after) (get text_order old other) → held after id ≡ option_or (find (has_id id) items) (held before id)
    → option_and_then (λ places. held places id) (get text_order new other) ≡ option_or (item_in items other id) (option_and_then (λ places. held places id) (get text_order old other))
put_found old new collection other id before after items all was now put = go (bytes_eq collection other) refl
  where
    each : AllByRecursion (λ item. item.collection ≡ collection) items
    each = recursion_from_All (λ item. item.collection ≡ collection) items all

    go : (b : Bool) → bytes_eq collection other ≡ b → option_and_then (λ places. held places id) (get text_order new other) ≡ option_or (item_in items other id) (option_and_then (λ places. held places id) (get text_order old other))
    go true e =
        let same : other ≡ collection = sym ((bytes_decides collection other).0 e) in
        rw (now, text_at collection other, e, same, was, found_of collection id items each) put
    go false e = rw (now, text_at collection other, e, found_elsewhere collection other id items each e) refl
