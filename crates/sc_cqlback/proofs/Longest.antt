-- A token that ends at a blank, a parenthesis or a comma is the longest.
use Rattle.std.proofs.Common.{◌≡◌, ℕ, ◌+◌, ◌-◌, ◌<◌, ◌≤◌, List, [], ◌∷◌, ◌++◌, length, take, Some, None, Bool, true, false, ◌||◌, ◌⊎◌, eqb, inl, inr, refl, sym, ap, subst, ◌∙◌, append_assoc, length-append, suc, arith}
use Rattle.std.specs.List.{AllByRecursion}
use Rattle.std.proofs.Math.Seq.{take-append_seam, take-append-add}
use Rattle.std.proofs.lemmas.Bool.{cases_order, eqb-false, false≢true}
use Rattle.sc_decimal.specs.Digits.{is_digit}
use Rattle.sc_decimal.specs.Numeral.{AreDigits, IsRow, Sign, no_sign, plus, minus, Mantissa, Exponent, no_exponent, exponent, IsNumeral}
use Rattle.sc_decimal.specs.Numeral as numerals
use Rattle.sc_decimal.specs.Value.{is_number}
use Rattle.sc_decimal.proofs.Numerals.{number_numeral}
use Rattle.sc_grammar.specs.declared.lexeme.Kind.{Kind}
use Rattle.sc_grammar.specs.declared.lexeme.Kind.TheVariants as kinds
use Rattle.sc_grammar.specs.Lexing.{is_letter, longest, Found}
use Rattle.sc_grammar.specs.Tokens.{goes_on, AreLetters, IsWord, NameInside, no_more, plain, quote, TextInside, text_ends, character, doubled, escaped, backslash, IsQuotedName, IsText, IsToken, NoneAbove, IsLongest}
use Rattle.sc_grammar.proofs.Longest.{longest_is, one_kind_only, nothing_is_no_token}

-- ---- what ends every token

abbrev pub IsEdge : ℕ → Type 0
IsEdge b = (b ≡ 32) ⊎ ((b ≡ 40) ⊎ ((b ≡ 41) ⊎ (b ≡ 44)))

by_edge : (P : ℕ → Type 0) → P 32 → P 40 → P 41 → P 44 → (b : ℕ) → IsEdge b → P b
by_edge P p q r s b (inl e) = subst P (sym e) p
by_edge P p q r s b (inr (inl e)) = subst P (sym e) q
by_edge P p q r s b (inr (inr (inl e))) = subst P (sym e) r
by_edge P p q r s b (inr (inr (inr e))) = subst P (sym e) s

-- the rest is empty or begins with such a byte
abbrev pub BeginsWithEdge : List ℕ → Type 0
BeginsWithEdge [] = Unit {0}
BeginsWithEdge (b ∷ bs) = IsEdge b

edge_no_letter : (b : ℕ) → IsEdge b → goes_on b ≡ false
edge_no_letter = by_edge (λ b. goes_on b ≡ false) refl refl refl refl

edge_no_name_quote : (b : ℕ) → IsEdge b → b ≡ 34 → ⊥
edge_no_name_quote = by_edge (λ b. b ≡ 34 → ⊥) (λ e. absurd (omega arith)) (λ e. absurd (omega arith)) (λ e. absurd (omega arith)) (λ e. absurd (omega arith))

edge_no_text_quote : (b : ℕ) → IsEdge b → b ≡ 39 → ⊥
edge_no_text_quote = by_edge (λ b. b ≡ 39 → ⊥) (λ e. absurd (omega arith)) (λ e. absurd (omega arith)) (λ e. absurd (omega arith)) (λ e. absurd (omega arith))

-- ---- words

no_edge_in_letters : (bs : List ℕ) (e : ℕ) (ys : List ℕ) → IsEdge e → AreLetters (bs ++ e ∷ ys) → ⊥
no_edge_in_letters [] e ys edge h = false≢true (sym (edge_no_letter e edge) ∙ h.0)
no_edge_in_letters (b ∷ bs) e ys edge h = no_edge_in_letters bs e ys edge h.1

no_edge_in_word : (b : ℕ) (bs : List ℕ) (e : ℕ) (ys : List ℕ) → IsEdge e → IsWord (b ∷ (bs ++ e ∷ ys)) → ⊥
no_edge_in_word b bs e ys edge h = no_edge_in_letters bs e ys edge h.1

-- ---- numbers: digits, signs, a point and the letter of the exponent

abbrev pub is_number_byte : ℕ → Bool
is_number_byte b = is_digit b || eqb b 43 || eqb b 45 || eqb b 46 || eqb b 101 || eqb b 69

abbrev pub AreNumberBytes : List ℕ → Type 0
AreNumberBytes = AllByRecursion (λ b. is_number_byte b ≡ true)

number_append : (xs ys : List ℕ) → AreNumberBytes xs → AreNumberBytes ys → AreNumberBytes (xs ++ ys)
number_append [] ys h k = k
number_append (x ∷ xs) ys h k = (h.0, number_append xs ys h.1 k)

digit_byte : (b : ℕ) → is_digit b ≡ true → is_number_byte b ≡ true
digit_byte b h = rw h refl

digit_bytes : (ds : List ℕ) → AreDigits ds → AreNumberBytes ds
digit_bytes [] h = tt
digit_bytes (d ∷ ds) h = (digit_byte d h.0, digit_bytes ds h.1)

row_bytes : (ds : List ℕ) → IsRow ds → AreNumberBytes ds
row_bytes [] h = absurd h
row_bytes (d ∷ ds) h = digit_bytes (d ∷ ds) h

sign_bytes : {s : List ℕ} {neg : Bool} → Sign s neg → AreNumberBytes s
sign_bytes no_sign = tt
sign_bytes plus = (refl, tt)
sign_bytes minus = (refl, tt)

mantissa_bytes : {m ds : List ℕ} {p : ℕ} → Mantissa m ds p → AreNumberBytes m
mantissa_bytes (numerals.whole ds row) = row_bytes ds row
mantissa_bytes (numerals.mixed ds fs row more) = number_append ds (46 ∷ fs) (row_bytes ds row) (refl, row_bytes fs more)
mantissa_bytes (numerals.fraction fs row) = (refl, row_bytes fs row)

mark_byte : (mark : ℕ) → (mark ≡ 101) ⊎ (mark ≡ 69) → is_number_byte mark ≡ true
mark_byte mark (inl e) = subst (λ (n : ℕ). is_number_byte n ≡ true) (sym e) refl
mark_byte mark (inr e) = subst (λ (n : ℕ). is_number_byte n ≡ true) (sym e) refl

exponent_bytes : {x : List ℕ} {e : _} → Exponent x e → AreNumberBytes x
exponent_bytes no_exponent = tt
exponent_bytes (exponent mark s ds neg is sign row) = (mark_byte mark is, number_append s ds (sign_bytes sign) (row_bytes ds row))

pub number_bytes : (text : List ℕ) → is_number text ≡ true → AreNumberBytes text
number_bytes text h =
    let n = number_numeral text h in
    subst AreNumberBytes (sym n.text_is)
    (number_append n.sign (n.mantissa ++ n.power) (sign_bytes n.is_sign) (number_append n.mantissa n.power (mantissa_bytes n.is_mantissa) (exponent_bytes n.is_exponent)))

edge_no_number : (b : ℕ) → IsEdge b → is_number_byte b ≡ false
edge_no_number = by_edge (λ b. is_number_byte b ≡ false) refl refl refl refl

no_edge_in_bytes : (xs : List ℕ) (e : ℕ) (ys : List ℕ) → IsEdge e → AreNumberBytes (xs ++ e ∷ ys) → ⊥
no_edge_in_bytes [] e ys edge h = false≢true (sym (edge_no_number e edge) ∙ h.0)
no_edge_in_bytes (x ∷ xs) e ys edge h = no_edge_in_bytes xs e ys edge h.1

-- ---- quotes: what is between them ends at one place

name_ends_once : {i j : List ℕ} → NameInside i → NameInside j → (e : ℕ) (ys : List ℕ) → (e ≡ 34 → ⊥) → i ++ 34 ∷ e ∷ ys ≡ j ++ 34 ∷ [] → ⊥
name_ends_once no_more no_more e ys other is = cc
name_ends_once no_more (plain b bs ne k) e ys other is = let same : 34 ≡ b = cc in ne (sym same)
name_ends_once no_more (quote bs k) e ys other is = let same : e ≡ 34 = cc in other same
name_ends_once (plain b bs ne k) no_more e ys other is = let same : b ≡ 34 = cc in ne same
name_ends_once (plain b bs ne k) (plain c cs nc l) e ys other is = name_ends_once k l e ys other cc
name_ends_once (plain b bs ne k) (quote cs l) e ys other is = let same : b ≡ 34 = cc in ne same
name_ends_once (quote bs k) no_more e ys other is = cc
name_ends_once (quote bs k) (plain c cs nc l) e ys other is = let same : 34 ≡ c = cc in nc (sym same)
name_ends_once (quote bs k) (quote cs l) e ys other is = name_ends_once k l e ys other cc

text_ends_once : {i j : List ℕ} → TextInside i → TextInside j → (e : ℕ) (ys : List ℕ) → (e ≡ 39 → ⊥) → i ++ 39 ∷ e ∷ ys ≡ j ++ 39 ∷ [] → ⊥
text_ends_once text_ends text_ends e ys other is = cc
text_ends_once text_ends (character b bs nq ns k) e ys other is = let same : 39 ≡ b = cc in nq (sym same)
text_ends_once text_ends (doubled bs k) e ys other is = let same : e ≡ 39 = cc in other same
text_ends_once text_ends (escaped bs k) e ys other is = let same : 39 ≡ 92 = cc in eqb-false 39 92 refl same
text_ends_once text_ends (backslash b bs nq k) e ys other is = let same : 39 ≡ 92 = cc in eqb-false 39 92 refl same
text_ends_once (character b bs nq ns k) text_ends e ys other is = let same : b ≡ 39 = cc in nq same
text_ends_once (character b bs nq ns k) (character c cs mq ms l) e ys other is = text_ends_once k l e ys other cc
text_ends_once (character b bs nq ns k) (doubled cs l) e ys other is = let same : b ≡ 39 = cc in nq same
text_ends_once (character b bs nq ns k) (escaped cs l) e ys other is = let same : b ≡ 92 = cc in ns same
text_ends_once (character b bs nq ns k) (backslash c cs mq l) e ys other is = let same : b ≡ 92 = cc in ns same
text_ends_once (doubled bs k) text_ends e ys other is = cc
text_ends_once (doubled bs k) (character c cs mq ms l) e ys other is = let same : 39 ≡ c = cc in mq (sym same)
text_ends_once (doubled bs k) (doubled cs l) e ys other is = text_ends_once k l e ys other cc
text_ends_once (doubled bs k) (escaped cs l) e ys other is = let same : 39 ≡ 92 = cc in eqb-false 39 92 refl same
text_ends_once (doubled bs k) (backslash c cs mq l) e ys other is = let same : 39 ≡ 92 = cc in eqb-false 39 92 refl same
text_ends_once (escaped bs k) text_ends e ys other is = let same : 92 ≡ 39 = cc in eqb-false 92 39 refl same
text_ends_once (escaped bs k) (character c cs mq ms l) e ys other is = let same : 92 ≡ c = cc in ms (sym same)
text_ends_once (escaped bs k) (doubled cs l) e ys other is = let same : 92 ≡ 39 = cc in eqb-false 92 39 refl same
text_ends_once (escaped bs k) (escaped cs l) e ys other is = text_ends_once k l e ys other cc
text_ends_once (escaped bs k) (backslash c cs mq l) e ys other is = let same : 39 ≡ c = cc in mq (sym same)
text_ends_once (backslash b bs nq k) text_ends e ys other is = let same : 92 ≡ 39 = cc in eqb-false 92 39 refl same
text_ends_once (backslash b bs nq k) (character c cs mq ms l) e ys other is = let same : 92 ≡ c = cc in ms (sym same)
text_ends_once (backslash b bs nq k) (doubled cs l) e ys other is = let same : 92 ≡ 39 = cc in eqb-false 92 39 refl same
text_ends_once (backslash b bs nq k) (escaped cs l) e ys other is = let same : b ≡ 39 = cc in nq same
text_ends_once (backslash b bs nq k) (backslash c cs mq l) e ys other is = text_ends_once k l e ys other cc

-- ---- no token goes on behind an edge

-- what the bytes of a token begin with where it is no word
abbrev IsFirst : Kind → ℕ → Type 0
IsFirst kinds.QuotedName b = b ≡ 34
IsFirst kinds.Text b = b ≡ 39
IsFirst _ b = (b ≡ 34 → ⊥) × (b ≡ 39 → ⊥)

first_of_word : (b : ℕ) → is_letter b ≡ true → (b ≡ 34 → ⊥) × (b ≡ 39 → ⊥)
first_of_word b h = (
  λ e. false≢true (subst (λ (n : ℕ). is_letter n ≡ true) e h),
  λ e. false≢true (subst (λ (n : ℕ). is_letter n ≡ true) e h),
)

first_of_number : (b : ℕ) (bs : List ℕ) → is_number (b ∷ bs) ≡ true → (b ≡ 34 → ⊥) × (b ≡ 39 → ⊥)
first_of_number b bs h =
    let first : is_number_byte b ≡ true = (number_bytes (b ∷ bs) h).0 in (
      λ e. false≢true (subst (λ (n : ℕ). is_number_byte n ≡ true) e first),
      λ e. false≢true (subst (λ (n : ℕ). is_number_byte n ≡ true) e first),
    )

first_of_sign : (b c : ℕ) (bs cs : List ℕ) → b ∷ bs ≡ c ∷ cs → (c ≡ 34 → ⊥) → (c ≡ 39 → ⊥) → (b ≡ 34 → ⊥) × (b ≡ 39 → ⊥)
first_of_sign b c bs cs is n m = let same : b ≡ c = cc in (λ e. n (sym same ∙ e), λ e. m (sym same ∙ e))

first_is : (k : Kind) (b : ℕ) (bs : List ℕ) → IsToken k (b ∷ bs) → IsFirst k b
first_is kinds.Word b bs h = first_of_word b h.0
first_is kinds.QuotedName b bs h = let is = h.quoted in cc
first_is kinds.Text b bs h = let is = h.quoted in cc
first_is kinds.Number b bs h = first_of_number b bs h
first_is kinds.Equal b bs h = first_of_sign b 61 bs [] h (λ e. absurd (omega arith)) (λ e. absurd (omega arith))
first_is kinds.NotEqual b bs h = first_of_sign b 60 bs (62 ∷ []) h (λ e. absurd (omega arith)) (λ e. absurd (omega arith))
first_is kinds.Less b bs h = first_of_sign b 60 bs [] h (λ e. absurd (omega arith)) (λ e. absurd (omega arith))
first_is kinds.Greater b bs h = first_of_sign b 62 bs [] h (λ e. absurd (omega arith)) (λ e. absurd (omega arith))
first_is kinds.AtMost b bs h = first_of_sign b 60 bs (61 ∷ []) h (λ e. absurd (omega arith)) (λ e. absurd (omega arith))
first_is kinds.AtLeast b bs h = first_of_sign b 62 bs (61 ∷ []) h (λ e. absurd (omega arith)) (λ e. absurd (omega arith))
first_is kinds.Opening b bs h = first_of_sign b 40 bs [] h (λ e. absurd (omega arith)) (λ e. absurd (omega arith))
first_is kinds.Closing b bs h = first_of_sign b 41 bs [] h (λ e. absurd (omega arith)) (λ e. absurd (omega arith))
first_is kinds.Comma b bs h = first_of_sign b 44 bs [] h (λ e. absurd (omega arith)) (λ e. absurd (omega arith))
first_is kinds.Bad b bs h = absurd h
first_is kinds.End b bs h = absurd h

-- a name that goes on behind a token begins with the token's first byte
name_alone : (k : Kind) (b : ℕ) (bs : List ℕ) (e : ℕ) (ys : List ℕ) → IsEdge e → IsToken k (b ∷ bs) → IsFirst k b → b ≡ 34 → IsQuotedName (b ∷ (bs ++ e ∷ ys)) → ⊥
name_alone kinds.QuotedName b bs e ys edge h first is longer =
    let here = h.quoted in let there = longer.quoted in
    let tail : bs ≡ h.inside ++ 34 ∷ [] = cc in
    let whole : bs ++ e ∷ ys ≡ longer.inside ++ 34 ∷ [] = cc in
    name_ends_once h.characters longer.characters e ys (edge_no_name_quote e edge) (sym (append_assoc h.inside (34 ∷ []) (e ∷ ys)) ∙ ap (λ (x : List ℕ). x ++ e ∷ ys) (sym tail) ∙ whole)
name_alone kinds.Text b bs e ys edge h first is longer = absurd (omega (arith, first))
name_alone kinds.Word b bs e ys edge h first is longer = first.0 is
name_alone kinds.Number b bs e ys edge h first is longer = first.0 is
name_alone kinds.Equal b bs e ys edge h first is longer = first.0 is
name_alone kinds.NotEqual b bs e ys edge h first is longer = first.0 is
name_alone kinds.Less b bs e ys edge h first is longer = first.0 is
name_alone kinds.Greater b bs e ys edge h first is longer = first.0 is
name_alone kinds.AtMost b bs e ys edge h first is longer = first.0 is
name_alone kinds.AtLeast b bs e ys edge h first is longer = first.0 is
name_alone kinds.Opening b bs e ys edge h first is longer = first.0 is
name_alone kinds.Closing b bs e ys edge h first is longer = first.0 is
name_alone kinds.Comma b bs e ys edge h first is longer = first.0 is
name_alone kinds.Bad b bs e ys edge h first is longer = absurd h
name_alone kinds.End b bs e ys edge h first is longer = absurd h

text_alone : (k : Kind) (b : ℕ) (bs : List ℕ) (e : ℕ) (ys : List ℕ) → IsEdge e → IsToken k (b ∷ bs) → IsFirst k b → b ≡ 39 → IsText (b ∷ (bs ++ e ∷ ys)) → ⊥
text_alone kinds.Text b bs e ys edge h first is longer =
    let here = h.quoted in let there = longer.quoted in
    let tail : bs ≡ h.inside ++ 39 ∷ [] = cc in
    let whole : bs ++ e ∷ ys ≡ longer.inside ++ 39 ∷ [] = cc in
    text_ends_once h.characters longer.characters e ys (edge_no_text_quote e edge) (sym (append_assoc h.inside (39 ∷ []) (e ∷ ys)) ∙ ap (λ (x : List ℕ). x ++ e ∷ ys) (sym tail) ∙ whole)
text_alone kinds.QuotedName b bs e ys edge h first is longer = absurd (omega (arith, first))
text_alone kinds.Word b bs e ys edge h first is longer = first.1 is
text_alone kinds.Number b bs e ys edge h first is longer = first.1 is
text_alone kinds.Equal b bs e ys edge h first is longer = first.1 is
text_alone kinds.NotEqual b bs e ys edge h first is longer = first.1 is
text_alone kinds.Less b bs e ys edge h first is longer = first.1 is
text_alone kinds.Greater b bs e ys edge h first is longer = first.1 is
text_alone kinds.AtMost b bs e ys edge h first is longer = first.1 is
text_alone kinds.AtLeast b bs e ys edge h first is longer = first.1 is
text_alone kinds.Opening b bs e ys edge h first is longer = first.1 is
text_alone kinds.Closing b bs e ys edge h first is longer = first.1 is
text_alone kinds.Comma b bs e ys edge h first is longer = first.1 is
text_alone kinds.Bad b bs e ys edge h first is longer = absurd h
text_alone kinds.End b bs e ys edge h first is longer = absurd h

one_byte : (b : ℕ) (bs : List ℕ) (e : ℕ) (ys : List ℕ) (c : ℕ) → b ∷ (bs ++ e ∷ ys) ≡ c ∷ [] → ⊥
one_byte b [] e ys c is = cc
one_byte b (x ∷ bs) e ys c is = cc

two_bytes : (b : ℕ) (bs : List ℕ) (e : ℕ) (ys : List ℕ) (c d : ℕ) → (e ≡ d → ⊥) → b ∷ (bs ++ e ∷ ys) ≡ c ∷ d ∷ [] → ⊥
two_bytes b [] e ys c d ne is = let same : e ≡ d = cc in ne same
two_bytes b (x ∷ []) e ys c d ne is = cc
two_bytes b (x ∷ y ∷ bs) e ys c d ne is = cc

edge_no_sign : (b : ℕ) → IsEdge b → (b ≡ 61 → ⊥) × (b ≡ 62 → ⊥)
edge_no_sign = by_edge (λ b. (b ≡ 61 → ⊥) × (b ≡ 62 → ⊥)) (apart 32 refl refl) (apart 40 refl refl) (apart 41 refl refl) (apart 44 refl refl)
  where
    apart : (n : ℕ) → eqb n 61 ≡ false → eqb n 62 ≡ false → (n ≡ 61 → ⊥) × (n ≡ 62 → ⊥)
    apart n p q = (eqb-false n 61 p, eqb-false n 62 q)

not_longer : (k j : Kind) (b : ℕ) (bs : List ℕ) (e : ℕ) (ys : List ℕ) → IsEdge e → IsToken k (b ∷ bs) → IsToken j (b ∷ (bs ++ e ∷ ys)) → ⊥
not_longer k kinds.Word b bs e ys edge h l = no_edge_in_word b bs e ys edge l
not_longer k kinds.QuotedName b bs e ys edge h l = name_alone k b bs e ys edge h (first_is k b bs h) (first_is kinds.QuotedName b (bs ++ e ∷ ys) l) l
not_longer k kinds.Text b bs e ys edge h l = text_alone k b bs e ys edge h (first_is k b bs h) (first_is kinds.Text b (bs ++ e ∷ ys) l) l
not_longer k kinds.Number b bs e ys edge h l = no_edge_in_bytes (b ∷ bs) e ys edge (number_bytes (b ∷ (bs ++ e ∷ ys)) l)
not_longer k kinds.Equal b bs e ys edge h l = one_byte b bs e ys 61 l
not_longer k kinds.NotEqual b bs e ys edge h l = two_bytes b bs e ys 60 62 (edge_no_sign e edge).1 l
not_longer k kinds.Less b bs e ys edge h l = one_byte b bs e ys 60 l
not_longer k kinds.Greater b bs e ys edge h l = one_byte b bs e ys 62 l
not_longer k kinds.AtMost b bs e ys edge h l = two_bytes b bs e ys 60 61 (edge_no_sign e edge).0 l
not_longer k kinds.AtLeast b bs e ys edge h l = two_bytes b bs e ys 62 61 (edge_no_sign e edge).0 l
not_longer k kinds.Opening b bs e ys edge h l = one_byte b bs e ys 40 l
not_longer k kinds.Closing b bs e ys edge h l = one_byte b bs e ys 41 l
not_longer k kinds.Comma b bs e ys edge h l = one_byte b bs e ys 44 l
not_longer k kinds.Bad b bs e ys edge h l = absurd l
not_longer k kinds.End b bs e ys edge h l = absurd l

-- ---- the longest token at the front

unique_longest : (bs : List ℕ) (k : Kind) (n : ℕ) → 0 < n → n ≤ length bs → IsToken k (take n bs) → NoneAbove n bs → longest bs ≡ Some (k, n)
unique_longest bs k n some within whole none = go (longest bs) refl
  where
    found : (Kind × ℕ) → Found
    found x = Some x

    go : (o : Found) → longest bs ≡ o → longest bs ≡ Some (k, n)
    go None e = let h : NoneAbove 0 bs = subst (IsLongest bs) e (longest_is bs) in absurd (h n k some within whole)
    go (Some (j, m)) e =
        let h : (m ≤ length bs) × IsToken j (take m bs) × NoneAbove m bs = subst (IsLongest bs) e (longest_is bs) in
        elim (cases_order m n) [
          | inl same ↦
              let kind : j ≡ k = one_kind_only (take n bs) j k (subst (λ (i : ℕ). IsToken j (take i bs)) same h.1) whole in
              e ∙ (ap (λ (i : Kind). found (i, m)) kind ∙ ap (λ (i : ℕ). found (k, i)) same)
          | inr (inl lt) ↦ absurd (h.2 n k lt within whole)
          | inr (inr lt) ↦ absurd (none m j lt h.0 h.1)
        ]

past : (xs : List ℕ) (rest : List ℕ) (m : ℕ) → length xs < m → m ≤ length (xs ++ rest) → take m (xs ++ rest) ≡ xs ++ take (m - length xs) rest
past xs rest m lt le = let place : length xs + (m - length xs) ≡ m = omega arith in ap (λ (n : ℕ). take n (xs ++ rest)) (sym place) ∙ take-append-add xs rest (m - length xs)

some_past : (b : ℕ) (bs rest : List ℕ) (k j : Kind) (d : ℕ) → 0 < d → d ≤ length rest → BeginsWithEdge rest → IsToken k (b ∷ bs) → IsToken j ((b ∷ bs) ++ take d rest) → ⊥
some_past b bs [] k j d some within edge h l = absurd (omega arith)
some_past b bs (e ∷ rest) k j d some within edge h l =
    let back : suc (d - 1) ≡ d = omega arith in
    not_longer k j b bs e (take (d - 1) rest) edge h (subst (λ (n : ℕ). IsToken j ((b ∷ bs) ++ take n (e ∷ rest))) (sym back) l)

none_past : (b : ℕ) (bs rest : List ℕ) (k : Kind) → BeginsWithEdge rest → IsToken k (b ∷ bs) → NoneAbove (length (b ∷ bs)) ((b ∷ bs) ++ rest)
none_past b bs rest k edge h m j lt le l =
    some_past b bs rest k j (m - length (b ∷ bs)) (omega arith) (omega (arith, length-append (b ∷ bs) rest)) edge h
    (subst (IsToken j) (past (b ∷ bs) rest m lt le) l)

pub token_longest : (xs rest : List ℕ) (k : Kind) → IsToken k xs → BeginsWithEdge rest → longest (xs ++ rest) ≡ Some (k, length xs)
token_longest [] rest k whole edge = absurd (nothing_is_no_token k whole)
token_longest (b ∷ bs) rest k whole edge =
    unique_longest ((b ∷ bs) ++ rest) k (length (b ∷ bs)) (omega arith) (omega (arith, length-append (b ∷ bs) rest))
    (subst (IsToken k) (sym (take-append_seam (b ∷ bs) rest)) whole) (none_past b bs rest k edge whole)

-- behind an opening parenthesis anything may stand
none_past_opening : (j : Kind) (b : ℕ) (bs : List ℕ) → IsToken j (40 ∷ b ∷ bs) → ⊥
none_past_opening kinds.Word b bs h = false≢true h.0
none_past_opening kinds.QuotedName b bs h = let is = h.quoted in let same : 40 ≡ 34 = cc in eqb-false 40 34 refl same
none_past_opening kinds.Text b bs h = let is = h.quoted in let same : 40 ≡ 39 = cc in eqb-false 40 39 refl same
none_past_opening kinds.Number b bs h = false≢true (number_bytes (40 ∷ b ∷ bs) h).0
none_past_opening kinds.Equal b bs h = cc
none_past_opening kinds.NotEqual b bs h = let same : 40 ≡ 60 = cc in eqb-false 40 60 refl same
none_past_opening kinds.Less b bs h = cc
none_past_opening kinds.Greater b bs h = cc
none_past_opening kinds.AtMost b bs h = let same : 40 ≡ 60 = cc in eqb-false 40 60 refl same
none_past_opening kinds.AtLeast b bs h = let same : 40 ≡ 62 = cc in eqb-false 40 62 refl same
none_past_opening kinds.Opening b bs h = cc
none_past_opening kinds.Closing b bs h = cc
none_past_opening kinds.Comma b bs h = cc
none_past_opening kinds.Bad b bs h = absurd h
none_past_opening kinds.End b bs h = absurd h

opening_front : (rest : List ℕ) (m : ℕ) (j : Kind) → 1 < m → m ≤ length (40 ∷ rest) → IsToken j (take m (40 ∷ rest)) → ⊥
opening_front [] m j lt le h = absurd (omega arith)
opening_front (b ∷ rest) m j lt le h =
    let back : suc (suc (m - 2)) ≡ m = omega arith in
    none_past_opening j b (take (m - 2) rest) (subst (λ (n : ℕ). IsToken j (take n (40 ∷ b ∷ rest))) (sym back) h)

pub opening_longest : (rest : List ℕ) → longest (40 ∷ rest) ≡ Some (kinds.Opening, 1)
opening_longest rest = unique_longest (40 ∷ rest) kinds.Opening 1 (omega arith) (omega arith) refl (λ m j lt le h. opening_front rest m j lt le h)
