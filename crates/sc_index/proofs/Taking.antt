-- What is found once an item or a collection is taken out.
use Rattle.std.proofs.Common.{◌≡◌, ℕ, Bool, true, false, cond, ◌&&◌, List, Some, None, option_map, refl, ◌∙◌, bytes_eq}
use Rattle.std.specs.Option.{option_and_then}
use Rattle.std.specs.Arc.{arc_value}
use Rattle.std.specs.BTreeMap.{BTreeMap, get}
use Rattle.std.specs.Ordering.{is_eq}
use Rattle.sc_base.specs.Text.{text_order}
use Rattle.sc_history.proofs.Texts.{text_turn}
use Rattle.sc_index.specs.Found.{Places, held}
use Rattle.sc_index.proofs.Placing.{same_place, text_at}

-- the place of an id is taken out
pub place_taken : (old new : Places) (key id : List ℕ) → get text_order new id ≡ cond (is_eq (text_order key id)) None (get text_order old id) → held new id ≡ cond (bytes_eq id key) None (held old id)
place_taken old new key id is = rw (is, text_at key id, text_turn key id) (go (bytes_eq id key))
  where
    go : (b : Bool) → option_and_then (λ place. option_map arc_value place) (cond b None (get text_order old id)) ≡ cond b None (held old id)
    go true = refl
    go false = refl

-- an item is taken out of its collection's places
pub item_taken : (old new : BTreeMap (List ℕ) Places) (collection other key id : List ℕ) (before after : Places) → get text_order old collection ≡ Some before
    → get text_order new other ≡ cond (is_eq (text_order collection other)) (Some after) (get text_order old other) → held after id ≡ cond (bytes_eq id key) None (held before id)
    → option_and_then (λ places. held places id) (get text_order new other) ≡ cond (bytes_eq other collection && bytes_eq id key) None (option_and_then (λ places. held places id) (get text_order old other))
item_taken old new collection other key id before after was now left = go (bytes_eq other collection) refl
  where
    turned : (b : Bool) → bytes_eq other collection ≡ b → is_eq (text_order collection other) ≡ b
    turned b e = text_at collection other ∙ (text_turn collection other ∙ e)

    go : (b : Bool) → bytes_eq other collection ≡ b → option_and_then (λ places. held places id) (get text_order new other) ≡ cond (b && bytes_eq id key) None (option_and_then (λ places. held places id) (get text_order old other))
    go true e = rw (now, turned true e, same_place collection other (turned true e), was) left
    go false e = rw (now, turned false e) refl

-- a collection is taken out
pub collection_taken : (old new : BTreeMap (List ℕ) Places) (collection other id : List ℕ) → get text_order new other ≡ cond (is_eq (text_order collection other)) None (get text_order old other)
    → option_and_then (λ places. held places id) (get text_order new other) ≡ cond (bytes_eq other collection) None (option_and_then (λ places. held places id) (get text_order old other))
collection_taken old new collection other id now = rw (now, text_at collection other, text_turn collection other) (go (bytes_eq other collection))
  where
    go : (b : Bool) → option_and_then (λ places. held places id) (cond b None (get text_order old other)) ≡ cond b None (option_and_then (λ places. held places id) (get text_order old other))
    go true = refl
    go false = refl
