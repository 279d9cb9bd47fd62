-- What is written of a good tree spells it.
use Rattle.std.proofs.Common.{◌≡◌, ℕ, zero, suc, ◌+◌, List, [], ◌∷◌, ◌++◌, Bool, true, false, refl, sym, ap, subst, ◌∙◌, append_assoc, arith, IsUtf8}
use Rattle.std.specs.List.{AllByRecursion}
use Rattle.std.proofs.lemmas.List.{append-nil}
use Rattle.sc_decimal.specs.Value.{number_of}
use Rattle.sc_json.specs.declared.tree.Num.{Num}
use Rattle.sc_json.specs.declared.tree.Json.{Json}
use Rattle.sc_json.specs.declared.tree.Json.TheVariants as trees
use Rattle.sc_json.specs.declared.tree.Json.TheOpen as layer
use Rattle.sc_json.specs.declared.tree.Json.TheOpen.{Json-F}
use Rattle.sc_json.specs.declared.tree.Json.TheViews.{out-Json, roll-Json, roll-out-Json, out-roll-Json, roll-out-Member}
use Rattle.sc_json.specs.declared.tree.Json.TheFolds.{every_here-Json}
use Rattle.sc_json.specs.declared.tree.Member.{Member, out-Member}
use Rattle.sc_json.specs.Grammar as grammar
use Rattle.sc_json.specs.Grammar.{Value, Padded, pad, Begun, Field, Named, more, more_names}
use Rattle.sc_json.specs.Good.{Good, IsAsSent, IsGoodLevel, IsGoodMember}
use Rattle.sc_json.specs.Spells.{Spells}
use Rattle.sc_json.specs.Compact.{compact, quoted, elements_text, members_text, member_text}
use Rattle.sc_json.proofs.Writing.{compact-list, compact-object}
use Rattle.sc_json.proofs.WrittenTexts.{text_spelled}
use Rattle.sc_json.proofs.GoodTrees.{Levels, GoodAt, GoodValue, each_map, list_good, object_good}

abbrev Spelled : Json → Type 0
Spelled v = Value (compact v) v

abbrev SpelledMember : Member → Type 0
SpelledMember m = Field (member_text m) m

bare : (v : Json) → Spelled v → Padded (compact v) v
bare v d = subst (λ (l : List ℕ). Padded l v) (append-nil (compact v)) (pad [] (compact v) [] v tt d tt)

-- the elements that are left, behind those that are written
rest_spelled : (a : List ℕ) (ys : List Json) → Begun a ys → (x : Json) (xs : List Json) → Spelled x → AllByRecursion Spelled xs → Value (91 ∷ ((a ++ elements_text (x ∷ xs)) ++ 93 ∷ [])) (trees.List (ys ++ (x ∷ xs)))
rest_spelled a ys b x [] d all =
    subst (λ (l : List ℕ). Value (91 ∷ ((a ++ l) ++ 93 ∷ [])) (trees.List (ys ++ x ∷ []))) (sym (append-nil (compact x))) (grammar.list a (compact x) ys x b (bare x d))
rest_spelled a ys b x (z ∷ xs) d all =
    let next = rest_spelled (a ++ compact x ++ 44 ∷ []) (ys ++ x ∷ []) (more a (compact x) ys x b (bare x d)) z xs all.0 all.1 in
    let text : ((a ++ compact x ++ 44 ∷ []) ++ elements_text (z ∷ xs)) ≡ a ++ elements_text (x ∷ z ∷ xs) = append_assoc (a ++ compact x) (44 ∷ []) (elements_text (z ∷ xs)) ∙ append_assoc a (compact x) (44 ∷ elements_text (z ∷ xs)) in
    let items : (ys ++ x ∷ []) ++ (z ∷ xs) ≡ ys ++ (x ∷ z ∷ xs) = append_assoc ys (x ∷ []) (z ∷ xs) in
    subst (λ (l : List ℕ). Value (91 ∷ (l ++ 93 ∷ [])) (trees.List (ys ++ (x ∷ z ∷ xs)))) text
    (subst (λ (vs : List Json). Value (91 ∷ (((a ++ compact x ++ 44 ∷ []) ++ elements_text (z ∷ xs)) ++ 93 ∷ [])) (trees.List vs)) items next)

list_spelled : (xs : List Json) → AllByRecursion Spelled xs → Spelled (trees.List xs)
list_spelled [] all = subst (λ (l : List ℕ). Value l (trees.List [])) (sym (compact-list [])) (grammar.empty_list [] tt)
list_spelled (x ∷ xs) all = subst (λ (l : List ℕ). Value l (trees.List (x ∷ xs))) (sym (compact-list (x ∷ xs))) (rest_spelled [] [] grammar.none x xs all.0 all.1)

members_spelled : (a : List ℕ) (ys : List Member) → Named a ys → (x : Member) (xs : List Member) → SpelledMember x → AllByRecursion SpelledMember xs → Value (123 ∷ ((a ++ members_text (x ∷ xs)) ++ 125 ∷ [])) (trees.Object (ys ++ (x ∷ xs)))
members_spelled a ys b x [] d all =
    subst (λ (l : List ℕ). Value (123 ∷ ((a ++ l) ++ 125 ∷ [])) (trees.Object (ys ++ x ∷ []))) (sym (append-nil (member_text x))) (grammar.object a (member_text x) ys x b d)
members_spelled a ys b x (z ∷ xs) d all =
    let next = members_spelled (a ++ member_text x ++ 44 ∷ []) (ys ++ x ∷ []) (more_names a (member_text x) ys x b d) z xs all.0 all.1 in
    let text : ((a ++ member_text x ++ 44 ∷ []) ++ members_text (z ∷ xs)) ≡ a ++ members_text (x ∷ z ∷ xs) = append_assoc (a ++ member_text x) (44 ∷ []) (members_text (z ∷ xs)) ∙ append_assoc a (member_text x) (44 ∷ members_text (z ∷ xs)) in
    let items : (ys ++ x ∷ []) ++ (z ∷ xs) ≡ ys ++ (x ∷ z ∷ xs) = append_assoc ys (x ∷ []) (z ∷ xs) in
    subst (λ (l : List ℕ). Value (123 ∷ (l ++ 125 ∷ [])) (trees.Object (ys ++ (x ∷ z ∷ xs)))) text
    (subst (λ (vs : List Member). Value (123 ∷ (((a ++ member_text x ++ 44 ∷ []) ++ members_text (z ∷ xs)) ++ 125 ∷ [])) (trees.Object vs)) items next)

object_spelled : (ms : List Member) → AllByRecursion SpelledMember ms → Spelled (trees.Object ms)
object_spelled [] all = subst (λ (l : List ℕ). Value l (trees.Object [])) (sym (compact-object [])) (grammar.empty_object [] tt)
object_spelled (m ∷ ms) all = subst (λ (l : List ℕ). Value l (trees.Object (m ∷ ms))) (sym (compact-object (m ∷ ms))) (members_spelled [] [] grammar.no_name m ms all.0 all.1)

field_spelled : (m : Member) → IsUtf8 (out-Member m).name → Spelled (out-Member m).value → SpelledMember m
field_spelled m utf8 d =
    let name = (out-Member m).name in let v = (out-Member m).value in
    subst (Field (member_text m)) (roll-out-Member m)
    (subst (λ (l : List ℕ). Field (l ++ 58 ∷ compact v) (grammar.member name v)) (append-nil (quoted name))
    (grammar.field [] (quoted name) [] (compact v) name v tt (text_spelled name utf8) tt (bare v d)))

number_spelled : (n : Num) → Levels (trees.Number n) → Spelled (trees.Number n)
unfolding compact
number_spelled n h =
    let level : IsAsSent n = subst IsGoodLevel (out-roll-Json (layer.Number n)) (every_here-Json IsGoodLevel IsGoodMember (roll-Json (layer.Number n)) (subst Levels (sym (trees.rolls-Number n)) h)) in
    let same : record { literal = n.literal; dec = number_of n.literal } ≡ n = ap (λ d. record { literal = n.literal; dec = d }) (sym level.reads) in
    subst (λ (x : Num). Value n.literal (trees.Number x)) same (grammar.number n.literal level.literal)

string_spelled : (t : List ℕ) → Levels (trees.Text t) → Spelled (trees.Text t)
unfolding compact
string_spelled t h =
    let utf8 : IsUtf8 t = subst IsGoodLevel (out-roll-Json (layer.Text t)) (every_here-Json IsGoodLevel IsGoodMember (roll-Json (layer.Text t)) (subst Levels (sym (trees.rolls-Text t)) h)) in
    grammar.text (quoted t) t (text_spelled t utf8)

null_spelled : Spelled trees.Null
unfolding compact
null_spelled = grammar.null

truth_spelled : (b : Bool) → Spelled (trees.Truth b)
unfolding compact
truth_spelled true = grammar.yes
truth_spelled false = grammar.no

-- one level, by what is spelled within
level_spelled : (n : ℕ) → ((x : Json) → GoodAt (suc n) x → Spelled x) → (v : Json) → GoodAt n v → Spelled v
level_spelled n within v g = subst (λ (x : Json). GoodAt n x → Spelled x) (roll-out-Json v) (go (out-Json v)) g
  where
    go : (y : Json-F Json Member) → GoodAt n (roll-Json y) → Spelled (roll-Json y)
    go layer.Null h = subst Spelled (sym trees.rolls-Null) null_spelled
    go (layer.Truth b) h = subst Spelled (sym (trees.rolls-Truth b)) (truth_spelled b)
    go (layer.Number x) h = subst Spelled (sym (trees.rolls-Number x)) (number_spelled x (subst (GoodAt n) (trees.rolls-Number x) h).levels)
    go (layer.Text t) h = subst Spelled (sym (trees.rolls-Text t)) (string_spelled t (subst (GoodAt n) (trees.rolls-Text t) h).levels)
    go (layer.List xs) h = subst Spelled (sym (trees.rolls-List xs)) (list_spelled xs (each_map (GoodAt (suc n)) Spelled within xs (list_good n xs (subst (GoodAt n) (trees.rolls-List xs) h)).0))
    go (layer.Object ms) h =
        subst Spelled (sym (trees.rolls-Object ms)) (object_spelled ms (each_map (GoodValue (suc n)) SpelledMember (λ m k. field_spelled m k.name (within (out-Member m).value k.value)) ms (object_good n ms (subst (GoodAt n) (trees.rolls-Object ms) h)).0.all))

good_spelled : (k n : ℕ) → n + k ≡ 65 → (v : Json) → GoodAt n v → Spelled v
good_spelled zero n e v g = absurd (omega (arith, g.within))
good_spelled (suc k) n e v g = level_spelled n (λ x h. good_spelled k (suc n) (omega arith) x h) v g

pub written_spells : (tree : Json) → Good tree → Spells (compact tree) tree
written_spells tree g = record { text = bare tree (good_spelled 65 0 refl tree (record { levels = g.levels; within = omega (arith, g.shallow) })); good = g }
