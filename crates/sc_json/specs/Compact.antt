-- How a tree is written: without white space, members and elements in their order, numbers as they were sent.
use Rattle.std.specs.Prelude.{ℕ, ◌+◌, ◌/◌, ◌%◌, List, [], ◌∷◌, ◌++◌, true, false, ◌==◌, nat_lt, if◌then◌else◌, Option, Some, None}
use Rattle.std.specs.List.{flat_map}
use Rattle.std.specs.Option.{option_map_or}
use Rattle.sc_json.specs.declared.tree.Json.{Json, Null, Truth, Number, Text, List', Object', Row_of-Json, end_of-Json, more_of-Json, Row_of-Member, end_of-Member, more_of-Member}
use Rattle.sc_json.specs.declared.tree.Member.{Member, out-Member}
use Rattle.sc_json.specs.Grammar.{null_text, true_text, false_text}

-- ---- texts (section 7)

-- a lower-case hexadecimal digit
abbrev pub hex_digit : ℕ → ℕ
hex_digit d = if nat_lt d 10 then 48 + d else 87 + d

-- the letter behind a backslash that stands for the byte, where there is one
abbrev pub letter_of : ℕ → Option ℕ
letter_of b =
    if b == 34 then Some 34 else
    (if b == 92 then Some 92 else
    (if b == 8 then Some 98 else
    (if b == 9 then Some 116 else
    (if b == 10 then Some 110 else
    (if b == 12 then Some 102 else
    (if b == 13 then Some 114 else None))))))

-- any other control character is written by its number, all else as it is
abbrev pub unlettered : ℕ → List ℕ
unlettered b = if nat_lt b 32 then 92 ∷ 117 ∷ 48 ∷ 48 ∷ hex_digit (b / 16) ∷ hex_digit (b % 16) ∷ [] else b ∷ []

-- a byte between quotes
unfoldable pub escaped : ℕ → List ℕ
escaped b = option_map_or (λ letter. 92 ∷ letter ∷ []) (letter_of b) (unlettered b)

abbrev pub quoted : List ℕ → List ℕ
quoted text = 34 ∷ (flat_map escaped text ++ 34 ∷ [])

-- ---- trees (sections 3 to 5)

unfoldable mutual
  pub compact : Json → List ℕ
  compact Null = null_text
  compact (Truth true) = true_text
  compact (Truth false) = false_text
  compact (Number n) = n.literal
  compact (Text t) = quoted t
  compact (List' shape elements) = 91 ∷ (row_text elements ++ 93 ∷ [])
  compact (Object' shape members) = 123 ∷ (member_row_text members ++ 125 ∷ [])

  pub row_text : {m : _} → Row_of-Json m → List ℕ
  row_text end_of-Json = []
  row_text (more_of-Json v rest) = compact v ++ row_tail_text rest

  pub row_tail_text : {m : _} → Row_of-Json m → List ℕ
  row_tail_text end_of-Json = []
  row_tail_text (more_of-Json v rest) = 44 ∷ (compact v ++ row_tail_text rest)

  pub member_row_text : {m : _} → Row_of-Member m → List ℕ
  member_row_text end_of-Member = []
  member_row_text (more_of-Member name v rest) = (quoted name ++ 58 ∷ compact v) ++ member_tail_text rest

  pub member_tail_text : {m : _} → Row_of-Member m → List ℕ
  member_tail_text end_of-Member = []
  member_tail_text (more_of-Member name v rest) = 44 ∷ ((quoted name ++ 58 ∷ compact v) ++ member_tail_text rest)

-- ---- the same of lists: each but the first stands behind a comma

abbrev pub member_text : Member → List ℕ
member_text m = quoted (out-Member m).name ++ 58 ∷ compact (out-Member m).value

abbrev pub elements_text : List Json → List ℕ
elements_text [] = []
elements_text (v ∷ vs) = compact v ++ flat_map (λ w. 44 ∷ compact w) vs

abbrev pub members_text : List Member → List ℕ
members_text [] = []
members_text (m ∷ ms) = member_text m ++ flat_map (λ w. 44 ∷ member_text w) ms
