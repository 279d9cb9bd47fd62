-- What stands in quotes is one name, or one text.
use Rattle.std.proofs.Common.{◌≡◌, ℕ, List, [], ◌∷◌, ◌++◌, inl, inr, refl, sym, ap, ◌∙◌}
use Rattle.std.specs.List.{flat_map}
use Rattle.std.proofs.lemmas.List.{append_cancel_right}
use Rattle.std.proofs.lemmas.Bool.{cases_eq, eqb-false}
use Rattle.sc_cqlwrite.specs.Tokens as tokens
use Rattle.sc_cqlwrite.specs.Tokens.{marked, spelled}
use Rattle.sc_cqlback.proofs.Wholes.{quote_marked, other_marked, some_marked}

module _ (m q : ℕ) where
  abbrev all_marked : List ℕ → List ℕ
  all_marked = flat_map (marked m q)

  quote_first : (b : ℕ) (bs : List ℕ) → b ≡ q → all_marked (b ∷ bs) ≡ m ∷ q ∷ all_marked bs
  quote_first b bs e = ap (λ (x : List ℕ). x ++ all_marked bs) (quote_marked m q b e)

  other_first : (b : ℕ) (bs : List ℕ) → (b ≡ q → ⊥) → all_marked (b ∷ bs) ≡ b ∷ all_marked bs
  other_first b bs ne = ap (λ (x : List ℕ). x ++ all_marked bs) (other_marked m q b ne)

  module _ (apart : (b : ℕ) (bs xs : List ℕ) → (b ≡ q → ⊥) → b ≡ m → all_marked bs ≡ q ∷ xs → ⊥) where
    one_inside : (xs ys : List ℕ) → all_marked xs ≡ all_marked ys → xs ≡ ys
    one_inside [] [] e = refl
    one_inside [] (y ∷ ys) e = absurd (some_marked m q y (all_marked ys) (sym e))
    one_inside (x ∷ xs) [] e = absurd (some_marked m q x (all_marked xs) e)
    one_inside (x ∷ xs) (y ∷ ys) e =
        elim (cases_eq x q) [
          | inl a ↦ elim (cases_eq y q) [
            | inl b ↦
                let h : m ∷ q ∷ all_marked xs ≡ m ∷ q ∷ all_marked ys = sym (quote_first x xs a) ∙ e ∙ quote_first y ys b in
                let same : x ≡ y = a ∙ sym b in
                let tail : all_marked xs ≡ all_marked ys = cc in
                ap (λ (n : ℕ). n ∷ xs) same ∙ ap (λ (l : List ℕ). y ∷ l) (one_inside xs ys tail)
            | inr b ↦
                let h : m ∷ q ∷ all_marked xs ≡ y ∷ all_marked ys = sym (quote_first x xs a) ∙ e ∙ other_first y ys b in
                let head : y ≡ m = cc in let tail : all_marked ys ≡ q ∷ all_marked xs = cc in
                absurd (apart y ys (all_marked xs) b head tail)
          ]
          | inr a ↦ elim (cases_eq y q) [
            | inl b ↦
                let h : x ∷ all_marked xs ≡ m ∷ q ∷ all_marked ys = sym (other_first x xs a) ∙ e ∙ quote_first y ys b in
                let head : x ≡ m = cc in let tail : all_marked xs ≡ q ∷ all_marked ys = cc in
                absurd (apart x xs (all_marked ys) a head tail)
            | inr b ↦
                let h : x ∷ all_marked xs ≡ y ∷ all_marked ys = sym (other_first x xs a) ∙ e ∙ other_first y ys b in
                let same : x ≡ y = cc in let tail : all_marked xs ≡ all_marked ys = cc in
                ap (λ (n : ℕ). n ∷ xs) same ∙ ap (λ (l : List ℕ). y ∷ l) (one_inside xs ys tail)
          ]
        ]

name_apart : (b : ℕ) (bs xs : List ℕ) → (b ≡ 34 → ⊥) → b ≡ 34 → all_marked 34 34 bs ≡ 34 ∷ xs → ⊥
name_apart b bs xs ne e h = ne e

text_apart : (b : ℕ) (bs xs : List ℕ) → (b ≡ 39 → ⊥) → b ≡ 92 → all_marked 92 39 bs ≡ 39 ∷ xs → ⊥
text_apart b [] xs ne e h = absurd cc
text_apart b (c ∷ cs) xs ne e h =
    elim (cases_eq c 39) [
      | inl is ↦ let k : 92 ∷ 39 ∷ all_marked 92 39 cs ≡ 39 ∷ xs = sym (quote_first 92 39 c cs is) ∙ h in let same : 92 ≡ 39 = cc in eqb-false 92 39 refl same
      | inr other ↦ let k : c ∷ all_marked 92 39 cs ≡ 39 ∷ xs = sym (other_first 92 39 c cs other) ∙ h in let same : c ≡ 39 = cc in other same
    ]

tail_of : (a b : ℕ) (xs ys : List ℕ) → a ∷ xs ≡ b ∷ ys → xs ≡ ys
tail_of a b xs ys e = cc

pub one_name : (a b : List ℕ) → spelled (tokens.name a) ≡ spelled (tokens.name b) → a ≡ b
unfolding spelled
one_name a b e =
    one_inside 34 34 name_apart a b (append_cancel_right (all_marked 34 34 a) (all_marked 34 34 b) (34 ∷ []) (tail_of 34 34 (all_marked 34 34 a ++ 34 ∷ []) (all_marked 34 34 b ++ 34 ∷ []) e))

pub one_text : (a b : List ℕ) → spelled (tokens.text a) ≡ spelled (tokens.text b) → a ≡ b
unfolding spelled
one_text a b e =
    one_inside 92 39 text_apart a b (append_cancel_right (all_marked 92 39 a) (all_marked 92 39 b) (39 ∷ []) (tail_of 39 39 (all_marked 92 39 a ++ 39 ∷ []) (all_marked 92 39 b ++ 39 ∷ []) e))
