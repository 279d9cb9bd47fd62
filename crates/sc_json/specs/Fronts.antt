-- The fronts of a JSON text: what may have come of one so far, by cases beside the grammar (RFC 8259), and the longest
-- of them that bytes begin with. Depth, equal names and the width of numbers don't count.
use Rattle.std.specs.Prelude.{◌≡◌, ℕ, ◌≤◌, List, [], ◌∷◌, ◌++◌, length, take, ◌⊎◌}
use Rattle.sc_json.specs.declared.tree.Json.{Json}
use Rattle.sc_json.specs.declared.tree.Member.{Member}
use Rattle.sc_json.specs.Grammar.{AreBlanks, IsLetter, IsUnit, IsPair, Pieces, Quoted, Literal, null_text, true_text, false_text, Value, Padded, Begun, Named}

abbrev pub IsWord : List ℕ → Type 0
IsWord m = (m ≡ null_text) ⊎ (m ≡ true_text) ⊎ (m ≡ false_text)

-- an escape, or a pair of escapes, that a text may hold
pub data Escape : List ℕ → Type 0 where
  by_letter : (m stands : List ℕ) → IsLetter m stands → Escape m
  by_unit : (m stands : List ℕ) → IsUnit m stands → Escape m
  by_pair : (m stands : List ℕ) → IsPair m stands → Escape m

-- an opening quote, then whole characters and escapes, then a prefix of an escape
pub data TextFront : List ℕ → Type 0 where
  unclosed : (raw bytes e rest : List ℕ) → Pieces raw bytes → Escape (e ++ rest) → TextFront (34 ∷ (raw ++ e))

mutual
  -- a front of a value
  pub data Front : List ℕ → Type 0 where
    nothing : Front []
    whole : (m : List ℕ) (v : Json) → Value m v → Front m
    in_word : (f rest : List ℕ) → IsWord (f ++ rest) → Front f
    in_number : (f rest : List ℕ) → Literal (f ++ rest) → Front f
    in_text : (f : List ℕ) → TextFront f → Front f
    in_list : (a f : List ℕ) (ys : List Json) → Begun a ys → PaddedFront f → Front (91 ∷ (a ++ f))
    in_object : (a f : List ℕ) (ys : List Member) → Named a ys → MemberFront f → Front (123 ∷ (a ++ f))

  -- a front of a value between white space, which is also what a front of a JSON text is
  pub data PaddedFront : List ℕ → Type 0 where
    before : (l f : List ℕ) → AreBlanks l → Front f → PaddedFront (l ++ f)
    behind : (c : List ℕ) (v : Json) → Padded c v → PaddedFront c

  -- a front of a member, with the white space round its parts
  pub data MemberFront : List ℕ → Type 0 where
    no_name : (l : List ℕ) → AreBlanks l → MemberFront l
    in_name : (l f : List ℕ) → AreBlanks l → TextFront f → MemberFront (l ++ f)
    named : (l q r name : List ℕ) → AreBlanks l → Quoted q name → AreBlanks r → MemberFront (l ++ q ++ r)
    at_value : (l q r f name : List ℕ) → AreBlanks l → Quoted q name → AreBlanks r → PaddedFront f → MemberFront (l ++ q ++ r ++ 58 ∷ f)

-- the length of the longest front of a JSON text that the bytes begin with
pub record IsLongestFront (bytes : List ℕ) (at : ℕ) : Type 0 where
  pub within : at ≤ length bytes
  pub front : PaddedFront (take at bytes)
  pub longest : (n : ℕ) → n ≤ length bytes → PaddedFront (take n bytes) → n ≤ at
