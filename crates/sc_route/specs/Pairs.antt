-- The pairs of a target's query (URL Standard, section 5.1).
use Rattle.std.specs.Prelude.{◌≡◌, ℕ, ◌++◌, Bool, true, false, List, [], ◌∷◌, codes, Option, Some, None, nat_eq}
use Rattle.std.specs.List.{find}
use Rattle.std.specs.Cmp.Lexicographic.{pointwise}
use Rattle.form_urlencoded.specs.Form.{DecodesTo, raw_pairs}
use Rattle.sc_expr.specs.declared.select.Pair.{Pair}
use Rattle.sc_place.specs.Segments.{query_of}

-- each name and each value decodes to that of the pair in its place
abbrev pub DecodeTo : List (List ℕ × List ℕ) → List Pair → Type 0
DecodeTo [] [] = Unit {0}
DecodeTo [] (pair ∷ pairs) = ⊥
DecodeTo (raw ∷ raws) [] = ⊥
DecodeTo (raw ∷ raws) (pair ∷ pairs) = DecodesTo raw.0 pair.name × DecodesTo raw.1 pair.value × DecodeTo raws pairs

abbrev pub HasPairs : List ℕ → List Pair → Type 0
HasPairs target pairs = DecodeTo (raw_pairs (query_of target)) pairs

unfoldable pub upsert_name : List ℕ
upsert_name = codes "upsert"

unfoldable pub true_word : List ℕ
true_word = codes "true"

abbrev pub is_true : Option Pair → Bool
is_true None = false
is_true (Some pair) = pointwise nat_eq pair.value true_word

-- the first pair that is named so has the value `true`
abbrev pub says_upsert : List Pair → Bool
says_upsert pairs = is_true (find (λ pair. pointwise nat_eq pair.name upsert_name) pairs)

-- the pairs that were read so far, before those that are left
pub record ReadSoFar (all left : List (List ℕ × List ℕ)) (pairs : List Pair) : Type 0 where
  pub done : List (List ℕ × List ℕ)
  pub parts : all ≡ done ++ left
  pub decoded : DecodeTo done pairs
