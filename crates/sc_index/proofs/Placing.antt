-- What places hold after one of them is made, written or taken out.
use Rattle.std.proofs.Common.{◌≡◌, ◌<◌, ◌+◌, ℕ, Bool, true, false, cond, List, [], ◌∷◌, ◌++◌, length, take, get_or, Option, Some, None, map, option_map, refl, sym, ap, ◌∙◌, bytes_eq}
use Rattle.std.specs.Option.{is_some, option_and_then}
use Rattle.std.specs.List.{AllByRecursion}
use Rattle.std.specs.Arc.{arc_value}
use Rattle.std.specs.BTreeMap.{get}
use Rattle.std.specs.Ordering.{is_eq}
use Rattle.std.specs.Cmp.Lexicographic.{bytes_decides, texts_ties}
use Rattle.std.specs.declared.alloc.Global.{Global}
use Rattle.std.specs.declared.sync.Arc.{Arc}
use Rattle.std.proofs.lemmas.List.{take_more}
use Rattle.std.proofs.lemmas.List.Elements.{recursion_from_All, All-from_recursion}
use Rattle.sc_base.specs.Text.{text_order}
use Rattle.sc_item.specs.Feature.{Feature}
use Rattle.sc_index.specs.Found.{HasPlace, HavePlaces, Places, held}

-- a text is in its own place of the order, and no other text is
pub text_at : (a b : List ℕ) → is_eq (text_order a b) ≡ bytes_eq a b
text_at a b = sym (texts_ties a b)

pub same_place : (a b : List ℕ) → is_eq (text_order a b) ≡ true → b ≡ a
same_place a b e = sym ((bytes_decides a b).0 (sym (text_at a b) ∙ e))

-- ---- a place is made where there was none, or one that holds no item is taken out

nothing : (o : Option (Option (Arc Feature Global))) → is_some o ≡ false → o ≡ None
nothing None e = refl
nothing (Some x) e = absurd cc

pub place_made : (old new : Places) (key id : List ℕ) → is_some (get text_order old key) ≡ false → get text_order new id ≡ cond (is_eq (text_order key id)) (Some None) (get text_order old id) → held new id ≡ held old id
place_made old new key id none is = go (is_eq (text_order key id)) refl is
  where
    go : (b : Bool) → is_eq (text_order key id) ≡ b → get text_order new id ≡ cond b (Some None) (get text_order old id) → held new id ≡ held old id
    go false e now = rw now refl
    go true e now = rw (now, same_place key id e, nothing (get text_order old key) none) refl

pub place_freed : (old new : Places) (key id : List ℕ) → get text_order old key ≡ Some None → get text_order new id ≡ cond (is_eq (text_order key id)) None (get text_order old id) → held new id ≡ held old id
place_freed old new key id empty is = go (is_eq (text_order key id)) refl is
  where
    go : (b : Bool) → is_eq (text_order key id) ≡ b → get text_order new id ≡ cond b None (get text_order old id) → held new id ≡ held old id
    go false e now = rw now refl
    go true e now = rw (now, same_place key id e, empty) refl

-- ---- an item is put into a place

pub item_put : (item : Arc Feature Global) (old new : Places) (id : List ℕ) → get text_order new id ≡ cond (is_eq (text_order (arc_value item).id id)) (Some (Some item)) (get text_order old id)
    → held new id ≡ cond (bytes_eq (arc_value item).id id) (Some (arc_value item)) (held old id)
item_put item old new id is = rw (is, text_at (arc_value item).id id) (go (bytes_eq (arc_value item).id id))
  where
    go : (b : Bool) → option_and_then (λ place. option_map arc_value place) (cond b (Some (Some item)) (get text_order old id)) ≡ cond b (Some (arc_value item)) (held old id)
    go true = refl
    go false = refl

-- ---- more items have places

abbrev Keeps : Places → Places → Type 0
Keeps old new = (id : List ℕ) → HasPlace old id → HasPlace new id

pub places_stay : (items : List Feature) (old new : Places) → Keeps old new → HavePlaces old items → HavePlaces new items
places_stay items old new keeps have = λ k d lt. keeps _ (have k d lt)

places_after : (items : List (Arc Feature Global)) (item : Arc Feature Global) (places : Places) → AllByRecursion (λ i. HasPlace places i.id) (map arc_value items) → HasPlace places (arc_value item).id
    → AllByRecursion (λ i. HasPlace places i.id) (map arc_value (items ++ item ∷ []))
places_after [] item places have has = (has, tt)
places_after (x ∷ items) item places have has = (have.0, places_after items item places have.1 has)

pub places_more : (items : List (Arc Feature Global)) (at : ℕ) (item : Arc Feature Global) (old new : Places) → at < length items → item ≡ get_or items at item → Keeps old new → HasPlace new (arc_value item).id
    → HavePlaces old (map arc_value (take at items)) → HavePlaces new (map arc_value (take (at + 1) items))
places_more items at item old new lt is keeps has have =
    let more : take (at + 1) items ≡ take at items ++ item ∷ [] = take_more items at item lt ∙ ap (λ x. take at items ++ x ∷ []) (sym is) in
    let each = recursion_from_All (λ i. HasPlace new i.id) (map arc_value (take at items)) (places_stay (map arc_value (take at items)) old new keeps have) in
    rw more (All-from_recursion (λ i. HasPlace new i.id) (map arc_value (take at items ++ item ∷ [])) (places_after (take at items) item new each has))

-- ---- the last of items that have places

split_last : (items : List (Arc Feature Global)) (last : Arc Feature Global) (places : Places) → AllByRecursion (λ i. HasPlace places i.id) (map arc_value (items ++ last ∷ []))
    → HasPlace places (arc_value last).id × AllByRecursion (λ i. HasPlace places i.id) (map arc_value items)
split_last [] last places are = (are.0, tt)
split_last (x ∷ items) last places are = let more = split_last items last places are.1 in (more.0, (are.0, more.1))

pub last_place : (items : List (Arc Feature Global)) (last : Arc Feature Global) (places : Places) → HavePlaces places (map arc_value (items ++ last ∷ [])) → HasPlace places (arc_value last).id × HavePlaces places (map arc_value items)
last_place items last places have =
    let both = split_last items last places (recursion_from_All (λ i. HasPlace places i.id) (map arc_value (items ++ last ∷ [])) have) in
    (both.0, All-from_recursion (λ i. HasPlace places i.id) (map arc_value items) both.1)
