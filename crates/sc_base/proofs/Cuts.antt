-- The first part of bytes, by the place of the first mark.
use Rattle.std.proofs.Common.{◌≡◌, ℕ, ◌+◌, ◌<◌, Bool, true, false, eqb, ltb, cond, List, [], ◌∷◌, ◌++◌, length, get_or, take, drop, Some, None, refl, sym, ◌∙◌, ap, arith}
use Rattle.std.specs.List.{position, position_or_len, AllByRecursion}
use Rattle.std.proofs.lemmas.List.Sums.{fails_before_first}
use Rattle.std.proofs.lemmas.List.Quantifiers.{position-Some}
use Rattle.std.proofs.lemmas.List.Elements.{recursion_from_All}
use Rattle.std.proofs.lemmas.List.{take-append-drop, drop_more, get_or_default, get_or-take, length-take}
use Rattle.std.proofs.lemmas.Bool.Decides.{nat_tests}
use Rattle.sc_base.specs.Parts.{parts_between, onto_first}

module _ (mark : ℕ) where
  abbrev HasNoMark : List ℕ → Type 0
  HasNoMark bytes = AllByRecursion (λ b. eqb b mark ≡ false) bytes

  with_mark : (b : ℕ) (front rest : List ℕ) → eqb b mark ≡ true → parts_between mark (b ∷ rest) ≡ [] ∷ parts_between mark rest
  with_mark b front rest h = ap (λ t. cond t ([] ∷ parts_between mark rest) (onto_first b (parts_between mark rest))) h

  before_mark : (front rest : List ℕ) (b : ℕ) → eqb b mark ≡ true → HasNoMark front → parts_between mark (front ++ b ∷ rest) ≡ front ∷ parts_between mark rest
  before_mark [] rest b m h = with_mark b [] rest m
  before_mark (a ∷ front) rest b m h =
      ap (λ t. cond t ([] ∷ parts_between mark (front ++ b ∷ rest)) (onto_first a (parts_between mark (front ++ b ∷ rest)))) h.0
      ∙ ap (onto_first a) (before_mark front rest b m h.1)

  unmarked : (bytes : List ℕ) → HasNoMark bytes → parts_between mark bytes ≡ bytes ∷ []
  unmarked [] h = refl
  unmarked (b ∷ bytes) h =
      ap (λ t. cond t ([] ∷ parts_between mark bytes) (onto_first b (parts_between mark bytes))) h.0 ∙ ap (onto_first b) (unmarked bytes h.1)

  module _ (bytes : List ℕ) (at : ℕ) (e : Some at ≡ position (λ b. eqb b mark) bytes) where
    first : (at < length bytes) × (eqb (get_or bytes at 0) mark ≡ true) × ((k : ℕ) → k < at → eqb (get_or bytes k 0) mark ≡ false)
    first = position-Some (λ b. eqb b mark) bytes at 0 (sym e)

    whole : bytes ≡ take at bytes ++ get_or bytes at 0 ∷ drop (at + 1) bytes
    whole = sym (take-append-drop at bytes) ∙ ap (λ t. take at bytes ++ t) (drop_more bytes at 0 first.0)

    none_before : HasNoMark (take at bytes)
    none_before = recursion_from_All (λ b. eqb b mark ≡ false) (take at bytes) (λ k d h.
        let lt : k < at = omega (arith, h, length-take at bytes) in
        ap (λ b. eqb b mark) (get_or-take at bytes k d lt ∙ get_or_default bytes k d 0 (omega (arith, first.0))) ∙ first.2 k lt)

    pub cut_at : parts_between mark bytes ≡ take at bytes ∷ parts_between mark (drop (at + 1) bytes)
    cut_at = ap (parts_between mark) whole ∙ before_mark (take at bytes) (drop (at + 1) bytes) (get_or bytes at 0) first.1 none_before

  module _ (bytes : List ℕ) (e : None ≡ position (λ b. eqb b mark) bytes) where
    past : (k : ℕ) → k < length bytes → k < position_or_len (λ b. eqb b mark) bytes
    past k lt = by (ltb (position_or_len (λ b. eqb b mark) bytes) (length bytes)) refl e
      where
        none_isnt_some : {A : Type 0} {x : A} → None ≡ Some x → ⊥
        none_isnt_some e = cc

        by : (b : Bool) → ltb (position_or_len (λ b. eqb b mark) bytes) (length bytes) ≡ b → None ≡ cond b (Some (position_or_len (λ b. eqb b mark) bytes)) None → k < position_or_len (λ b. eqb b mark) bytes
        by true t e' = absurd (none_isnt_some e')
        by false t e' = grind (arith, nat_tests)

    pub uncut : parts_between mark bytes ≡ bytes ∷ []
    uncut = unmarked bytes (recursion_from_All (λ b. eqb b mark ≡ false) bytes (λ k d h. fails_before_first (λ b. eqb b mark) bytes k d (past k h)))
