-- The place of a name among members, where one more member comes, and in a map of the places.
use Rattle.std.proofs.Common.{◌≡◌, ℕ, suc, ◌+◌, Bool, true, false, cond, ◌||◌, List, [], ◌∷◌, ◌++◌, length, Option, Some, None, refl, ap, sym, ◌∙◌, arith}
use Rattle.std.specs.Option.{is_some, option_or}
use Rattle.std.specs.Ordering.{is_eq}
use Rattle.std.specs.List.{position, position_from, list_any}
use Rattle.std.specs.BTreeMap.{BTreeMap, get}
use Rattle.std.specs.Cmp.Lexicographic.{bytes_decides, texts_ties}
use Rattle.std.proofs.lemmas.Iterator.Adapters.{position_from-zero}
use Rattle.sc_base.specs.Text.{text_order}
use Rattle.sc_json.specs.declared.tree.Member.{Member, out-Member}
use Rattle.sc_item.specs.Trees.{is_named}
use Rattle.sc_item.specs.Places.{Agree}

-- ---- the first place at which a test passes

from_push : {X : Type 0} (p : X → Bool) (i : ℕ) (xs : List X) (y : X) → position_from p i (xs ++ y ∷ []) ≡ option_or (position_from p i xs) (cond (p y) (Some (i + length xs)) None)
from_push p i [] y = ap (λ (n : ℕ). cond (p y) (Some n) None) (omega arith)
from_push p i (x ∷ xs) y = by (p x) (from_push p (i + 1) xs y)
  where
    by : (b : Bool) → position_from p (i + 1) (xs ++ y ∷ []) ≡ option_or (position_from p (i + 1) xs) (cond (p y) (Some (i + 1 + length xs)) None) →
        cond b (Some i) (position_from p (i + 1) (xs ++ y ∷ [])) ≡ option_or (cond b (Some i) (position_from p (i + 1) xs)) (cond (p y) (Some (i + suc (length xs))) None)
    by true e = refl
    by false e = e ∙ ap (λ (n : ℕ). option_or (position_from p (i + 1) xs) (cond (p y) (Some n) None)) (omega arith)

from_any : {X : Type 0} (p : X → Bool) (i : ℕ) (xs : List X) → is_some (position_from p i xs) ≡ list_any p xs
from_any p i [] = refl
from_any p i (x ∷ xs) = by (p x) (from_any p (i + 1) xs)
  where
    by : (b : Bool) → is_some (position_from p (i + 1) xs) ≡ list_any p xs → is_some (cond b (Some i) (position_from p (i + 1) xs)) ≡ (b || list_any p xs)
    by true e = refl
    by false e = e

position_push : {X : Type 0} (p : X → Bool) (xs : List X) (y : X) → position p (xs ++ y ∷ []) ≡ option_or (position p xs) (cond (p y) (Some (length xs)) None)
position_push p xs y =
    position_from-zero p (xs ++ y ∷ []) ∙ from_push p 0 xs y
    ∙ ap (λ (n : ℕ). option_or (position_from p 0 xs) (cond (p y) (Some n) None)) (omega arith)
    ∙ ap (λ (o : Option ℕ). option_or o (cond (p y) (Some (length xs)) None)) (sym (position_from-zero p xs))

pub position_any : {X : Type 0} (p : X → Bool) (xs : List X) → is_some (position p xs) ≡ list_any p xs
position_any p xs = ap is_some (position_from-zero p xs) ∙ from_any p 0 xs

-- ---- one more member

none_of : (o : Option ℕ) → is_some o ≡ false → o ≡ None
none_of None e = refl
none_of (Some x) e = absurd cc

-- its name has a place already
pub named_again : (places : BTreeMap (List ℕ) ℕ) (ms : List Member) (m : Member) → is_some (get text_order places (out-Member m).name) ≡ true → Agree places ms → Agree places (ms ++ m ∷ [])
named_again places ms m has agree name =
    agree name ∙ by (is_named name m) (position (is_named name) ms) refl refl ∙ sym (position_push (is_named name) ms m)
  where
    by : (b : Bool) (o : Option ℕ) → is_named name m ≡ b → position (is_named name) ms ≡ o → o ≡ option_or o (cond b (Some (length ms)) None)
    by b (Some at) is at_is = refl
    by false None is at_is = refl
    by true None is at_is =
        let same : (out-Member m).name ≡ name = (bytes_decides (out-Member m).name name).0 is in
        let none : get text_order places (out-Member m).name ≡ None = ap (get text_order places) same ∙ agree name ∙ at_is in
        let some : is_some (get text_order places (out-Member m).name) ≡ false = ap is_some none in
        absurd cc

-- its name is put into the map
pub named_first : (old new : BTreeMap (List ℕ) ℕ) (ms : List Member) (m : Member) → is_some (get text_order old (out-Member m).name) ≡ false → Agree old ms →
    ((name : List ℕ) → get text_order new name ≡ cond (is_eq (text_order (out-Member m).name name)) (Some (length ms)) (get text_order old name)) → Agree new (ms ++ m ∷ [])
named_first old new ms m lacks agree updates name =
    updates name ∙ ap (λ (b : Bool). cond b (Some (length ms)) (get text_order old name)) (sym (texts_ties (out-Member m).name name))
    ∙ by (is_named name m) refl ∙ sym (position_push (is_named name) ms m)
  where
    by : (b : Bool) → is_named name m ≡ b → cond b (Some (length ms)) (get text_order old name) ≡ option_or (position (is_named name) ms) (cond b (Some (length ms)) None)
    by false is = agree name ∙ or_none (position (is_named name) ms)
      where
        or_none : (o : Option ℕ) → o ≡ option_or o None
        or_none None = refl
        or_none (Some x) = refl
    by true is =
        let same : (out-Member m).name ≡ name = (bytes_decides (out-Member m).name name).0 is in
        let none : get text_order old (out-Member m).name ≡ None = none_of (get text_order old (out-Member m).name) lacks in
        let nowhere : position (is_named name) ms ≡ None = sym (agree name) ∙ ap (get text_order old) (sym same) ∙ none in
        ap (λ (o : Option ℕ). option_or o (Some (length ms))) (sym nowhere)
