-- The lines of bytes, one after another, are the bytes.
use Rattle.std.proofs.Common.{◌≡◌, ℕ, Bool, true, false, cond, eqb, List, [], ◌∷◌, refl, sym, ◌∙◌, ap, arith}
use Rattle.std.specs.List.{concat}
use Rattle.std.proofs.lemmas.Bool.Decides.{nat_tests}
use Rattle.sc_outside.specs.Lines.{lines_of, onto_first}

concat-onto_first : (b : ℕ) (lines : List (List ℕ)) → concat (onto_first b lines) ≡ b ∷ concat lines
concat-onto_first b [] = refl
concat-onto_first b (line ∷ lines) = refl

-- the lines, one after another, are the bytes
pub concat-lines_of : (bytes : List ℕ) → concat (lines_of bytes) ≡ bytes
concat-lines_of [] = refl
concat-lines_of (b ∷ bytes) = by (concat-lines_of bytes) (eqb b 10) refl
  where
    by : concat (lines_of bytes) ≡ bytes → (t : Bool) → eqb b 10 ≡ t → concat (cond t ((10 ∷ []) ∷ lines_of bytes) (onto_first b (lines_of bytes))) ≡ b ∷ bytes
    by rest true e = let h : b ≡ 10 = grind (arith, nat_tests) in (λ k. sym h k ∷ rest k)
    by rest false e = concat-onto_first b (lines_of bytes) ∙ ap (λ t. b ∷ t) rest
