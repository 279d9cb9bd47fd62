-- What the grammar has of words and numbers, the machine takes.
use Rattle.std.proofs.Common.{◌≡◌, ℕ, ◌+◌, List, [], ◌∷◌, ◌++◌, true, false, Some, refl, sym, subst, append_assoc, ◌⊎◌, inl, inr}
use Rattle.std.proofs.lemmas.List.{append-nil}
use Rattle.sc_json.specs.declared.tree.Json.TheVariants as trees
use Rattle.sc_json.specs.declared.state.Frame.{Frame}
use Rattle.sc_json.specs.declared.state.Mode.TheVariants.{Value, Word, Number, After}
use Rattle.sc_json.specs.declared.state.Letters.TheVariants.{T, Tr, Tru, F, Fa, Fal, Fals, N, Nu, Nul}
use Rattle.sc_json.specs.declared.state.Part.{Part}
use Rattle.sc_json.specs.declared.state.Part.TheVariants as parts
use Rattle.sc_json.specs.Numbers.{is_digit_byte, next_part}
use Rattle.sc_json.specs.Machine.{at, step_of}
use Rattle.sc_json.specs.Grammar.{AreDigits, null_text, true_text, false_text}
use Rattle.sc_json.proofs.Steps.{Leads, stays, steps}

pub null_goes : (k : List Frame) (n : ℕ) → Leads null_text n (at k Value) (at k (After trees.Null))
unfolding step_of
null_goes k n = steps 110 _ n _ (at k (Word N)) _ refl (steps 117 _ _ _ (at k (Word Nu)) _ refl (steps 108 _ _ _ (at k (Word Nul)) _ refl (steps 108 _ _ _ (at k (After trees.Null)) _ refl (stays _ _))))

pub true_goes : (k : List Frame) (n : ℕ) → Leads true_text n (at k Value) (at k (After (trees.Truth true)))
unfolding step_of
true_goes k n = steps 116 _ n _ (at k (Word T)) _ refl (steps 114 _ _ _ (at k (Word Tr)) _ refl (steps 117 _ _ _ (at k (Word Tru)) _ refl (steps 101 _ _ _ (at k (After (trees.Truth true))) _ refl (stays _ _))))

pub false_goes : (k : List Frame) (n : ℕ) → Leads false_text n (at k Value) (at k (After (trees.Truth false)))
unfolding step_of
false_goes k n = steps 102 _ n _ (at k (Word F)) _ refl (steps 97 _ _ _ (at k (Word Fa)) _ refl (steps 108 _ _ _ (at k (Word Fal)) _ refl (steps 115 _ _ _ (at k (Word Fals)) _ refl (steps 101 _ _ _ (at k (After (trees.Truth false))) _ refl (stays _ _)))))

-- ---- numbers

-- one more byte of a number
pub number_goes : (k : List Frame) (p q : Part) (ds : List ℕ) (from n b : ℕ) → next_part p b ≡ Some q → (step_of (at k (Number p ds from)) n b).next ≡ Some (at k (Number q (ds ++ b ∷ []) from))
unfolding step_of
number_goes k p q ds from n b h = rw h refl

-- digits, in a part that digits don't leave
pub digits_go : (k : List Frame) (p : Part) → ((b : ℕ) → is_digit_byte b ≡ true → next_part p b ≡ Some p) → (ds more : List ℕ) → AreDigits more → (from n : ℕ) → Leads more n (at k (Number p ds from)) (at k (Number p (ds ++ more) from))
digits_go k p on ds [] all from n = subst (λ (x : List ℕ). Leads [] n (at k (Number p ds from)) (at k (Number p x from))) (sym (append-nil ds)) (stays n (at k (Number p ds from)))
digits_go k p on ds (b ∷ more) all from n =
    subst (λ (x : List ℕ). Leads (b ∷ more) n (at k (Number p ds from)) (at k (Number p x from))) (append_assoc ds (b ∷ []) more)
    (steps b more n (at k (Number p ds from)) (at k (Number p (ds ++ b ∷ []) from)) (at k (Number p ((ds ++ b ∷ []) ++ more) from)) (number_goes k p p ds from n b (on b all.0)) (digits_go k p on (ds ++ b ∷ []) more all.1 from (n + 1)))

pub whole_on : (b : ℕ) → is_digit_byte b ≡ true → next_part parts.Whole b ≡ Some parts.Whole
whole_on b h = rw h refl

pub fraction_on : (b : ℕ) → is_digit_byte b ≡ true → next_part parts.Fraction b ≡ Some parts.Fraction
fraction_on b h = rw h refl

pub power_on : (b : ℕ) → is_digit_byte b ≡ true → next_part parts.Power b ≡ Some parts.Power
power_on b h = rw h refl

-- the fraction, behind a whole part
pub fraction_goes : (p : Part) → (p ≡ parts.Zero) ⊎ (p ≡ parts.Whole) → (k : List Frame) (ds : List ℕ) (d : ℕ) (more : List ℕ) → is_digit_byte d ≡ true → AreDigits more → (from n : ℕ)
    → Leads (46 ∷ d ∷ more) n (at k (Number p ds from)) (at k (Number parts.Fraction (ds ++ 46 ∷ d ∷ more) from))
fraction_goes p is k ds d more one all from n =
    subst (λ (x : List ℕ). Leads (46 ∷ d ∷ more) n (at k (Number p ds from)) (at k (Number parts.Fraction x from))) (simp append_assoc)
    (steps 46 (d ∷ more) n (at k (Number p ds from)) (at k (Number parts.Point (ds ++ 46 ∷ []) from)) (at k (Number parts.Fraction (((ds ++ 46 ∷ []) ++ d ∷ []) ++ more) from)) (number_goes k p parts.Point ds from n 46 (elim is [ inl e ↦ rw e refl | inr e ↦ rw e refl ]))
    (steps d more (n + 1) (at k (Number parts.Point (ds ++ 46 ∷ []) from)) (at k (Number parts.Fraction ((ds ++ 46 ∷ []) ++ d ∷ []) from)) (at k (Number parts.Fraction (((ds ++ 46 ∷ []) ++ d ∷ []) ++ more) from)) (number_goes k parts.Point parts.Fraction (ds ++ 46 ∷ []) from (n + 1) d (rw one refl))
    (digits_go k parts.Fraction fraction_on ((ds ++ 46 ∷ []) ++ d ∷ []) more all from (n + 1 + 1))))
