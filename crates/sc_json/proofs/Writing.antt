-- Lists and objects, as they are written: the text of the row within is that of the list.
use Rattle.std.proofs.Common.{◌≡◌, ℕ, List as Lists, [], ◌∷◌, ◌++◌, refl, ◌∙◌, ap, append_assoc}
use Rattle.std.specs.List.{flat_map}
use Rattle.sc_json.specs.declared.tree.Json.{Json, List, Object, Row_of-Json, end_of-Json, more_of-Json, items-the_row-Json, items_hidden-the_row-Json-0, items-the_row-Member, items_hidden-the_row-Member-1, Row_of-Member, end_of-Member, more_of-Member}
use Rattle.sc_json.specs.declared.tree.Json.TheBlock.{hidden-the_row-Json-0, shape-the_row-Json-0, hidden-the_row-Member-1, shape-the_row-Member-1}
use Rattle.sc_base.specs.formers.seq.Seq.{the_former}
use mathlib.Core.Former.{arity, this}
use Rattle.sc_json.specs.declared.tree.Member.{Member}
use Rattle.sc_json.specs.Compact.{quoted, compact, row_text, row_tail_text, member_row_text, member_tail_text, elements_text, members_text, member_text}

tail_is : {m : _} → (k : Row_of-Json m) → row_tail_text k ≡ flat_map (λ v. 44 ∷ compact v) (items-the_row-Json m k)
unfolding compact
tail_is end_of-Json = refl
tail_is (more_of-Json v rest) = ap (λ (t : Lists ℕ). 44 ∷ (compact v ++ t)) (tail_is rest)

row_is : {m : _} → (k : Row_of-Json m) → row_text k ≡ elements_text (items-the_row-Json m k)
unfolding compact
row_is end_of-Json = refl
row_is (more_of-Json v rest) = ap (λ (t : Lists ℕ). compact v ++ t) (tail_is rest)

pub compact-list : (vs : Lists Json) → compact (List vs) ≡ 91 ∷ (elements_text vs ++ 93 ∷ [])
unfolding compact
compact-list vs = ap (λ (t : Lists ℕ). 91 ∷ (t ++ 93 ∷ [])) (row_is {m = arity (the_former this) (shape-the_row-Json-0 vs)} (hidden-the_row-Json-0 vs) ∙ ap elements_text (items_hidden-the_row-Json-0 vs))

member_tail_is : {m : _} → (k : Row_of-Member m) → member_tail_text k ≡ flat_map (λ w. 44 ∷ member_text w) (items-the_row-Member m k)
unfolding compact
member_tail_is end_of-Member = refl
member_tail_is (more_of-Member name v rest) = ap (λ (t : Lists ℕ). 44 ∷ ((quoted name ++ 58 ∷ compact v) ++ t)) (member_tail_is rest)

member_row_is : {m : _} → (k : Row_of-Member m) → member_row_text k ≡ members_text (items-the_row-Member m k)
unfolding compact
member_row_is end_of-Member = refl
member_row_is (more_of-Member name v rest) = ap (λ (t : Lists ℕ). (quoted name ++ 58 ∷ compact v) ++ t) (member_tail_is rest)

pub compact-object : (ms : Lists Member) → compact (Object ms) ≡ 123 ∷ (members_text ms ++ 125 ∷ [])
unfolding compact
compact-object ms = ap (λ (t : Lists ℕ). 123 ∷ (t ++ 125 ∷ [])) (member_row_is {m = arity (the_former this) (shape-the_row-Member-1 ms)} (hidden-the_row-Member-1 ms) ∙ ap members_text (items_hidden-the_row-Member-1 ms))

-- a row within its brackets
pub closed : (old one two new inner : Lists ℕ) (first last : ℕ) → one ≡ old ++ first ∷ [] → two ≡ one ++ inner → new ≡ two ++ last ∷ [] → new ≡ old ++ (first ∷ (inner ++ last ∷ []))
closed old one two new inner first last a b c =
    c ∙ ap (λ (t : Lists ℕ). t ++ last ∷ []) (b ∙ ap (λ (t : Lists ℕ). t ++ inner) a ∙ append_assoc old (first ∷ []) inner) ∙ append_assoc old (first ∷ inner) (last ∷ [])
