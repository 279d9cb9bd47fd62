-- What the machine takes of a number, the grammar has.
use Rattle.std.proofs.Common.{◌≡◌, ◌⊎◌, inl, inr, ℕ, ◌≤◌, List, [], ◌∷◌, ◌++◌, Bool, true, false, cond, eqb, Some, refl, sym, ap, subst, ◌∙◌, append_assoc, arith}
use Rattle.std.proofs.lemmas.Bool.{eqb-true}
use Rattle.std.proofs.lemmas.Bool.Decides.{nat_tests}
use Rattle.std.proofs.lemmas.List.{append-nil}
use Rattle.sc_json.specs.declared.state.Part.{Part}
use Rattle.sc_json.specs.declared.state.Part.TheVariants as parts
use Rattle.sc_json.specs.Numbers.{next_part, point_of, mark_of, power_of, is_whole}
use Rattle.sc_json.specs.Characters.{is_digit_byte}
use Rattle.sc_json.specs.Grammar as grammar
use Rattle.sc_json.specs.Grammar.{AreDigits, Literal, literal}

pub chosen : {A : Type 0} (b : Bool) (x y z : A) → cond b x y ≡ z → ((b ≡ true) × (x ≡ z)) ⊎ ((b ≡ false) × (y ≡ z))
chosen true x y z e = inl (refl, e)
chosen false x y z e = inr (refl, e)

pub some_is : {A : Type 0} (x y : A) → Some x ≡ Some y → x ≡ y
some_is x y e = cc

pub digits_push : (ds : List ℕ) (b : ℕ) → AreDigits ds → is_digit_byte b ≡ true → AreDigits (ds ++ b ∷ [])
digits_push [] b w e = (e, tt)
digits_push (x ∷ ds) b w e = (w.0, digits_push ds b w.1 e)

-- ---- the parts so far

pub record IsInteger (ds : List ℕ) : Type 0 where
  pub s : List ℕ
  pub w : List ℕ
  pub minus : grammar.Minus s
  pub whole : grammar.Whole w
  pub is : ds ≡ s ++ w

pub record IsMantissa (ds : List ℕ) : Type 0 where
  pub s : List ℕ
  pub w : List ℕ
  pub f : List ℕ
  pub minus : grammar.Minus s
  pub whole : grammar.Whole w
  pub fraction : grammar.Fraction f
  pub is : ds ≡ s ++ w ++ f

pub record AtZero (ds : List ℕ) : Type 0 where
  pub s : List ℕ
  pub minus : grammar.Minus s
  pub is : ds ≡ s ++ 48 ∷ []

pub record AtWhole (ds : List ℕ) : Type 0 where
  pub s : List ℕ
  pub d : ℕ
  pub more : List ℕ
  pub minus : grammar.Minus s
  pub low : 49 ≤ d
  pub high : d ≤ 57
  pub all : AreDigits more
  pub is : ds ≡ s ++ d ∷ more

pub record AtPoint (ds : List ℕ) : Type 0 where
  pub i : List ℕ
  pub integer : IsInteger i
  pub is : ds ≡ i ++ 46 ∷ []

pub record AtFraction (ds : List ℕ) : Type 0 where
  pub i : List ℕ
  pub d : ℕ
  pub more : List ℕ
  pub integer : IsInteger i
  pub one : is_digit_byte d ≡ true
  pub all : AreDigits more
  pub is : ds ≡ i ++ 46 ∷ d ∷ more

pub record AtMark (ds : List ℕ) : Type 0 where
  pub m : List ℕ
  pub mark : ℕ
  pub mantissa : IsMantissa m
  pub mark_is : (mark ≡ 101) ⊎ (mark ≡ 69)
  pub is : ds ≡ m ++ mark ∷ []

pub record AtSign (ds : List ℕ) : Type 0 where
  pub m : List ℕ
  pub mark : ℕ
  pub s : ℕ
  pub mantissa : IsMantissa m
  pub mark_is : (mark ≡ 101) ⊎ (mark ≡ 69)
  pub sign : grammar.Sign (s ∷ [])
  pub is : ds ≡ m ++ mark ∷ s ∷ []

pub record AtPower (ds : List ℕ) : Type 0 where
  pub m : List ℕ
  pub mark : ℕ
  pub s : List ℕ
  pub d : ℕ
  pub more : List ℕ
  pub mantissa : IsMantissa m
  pub mark_is : (mark ≡ 101) ⊎ (mark ≡ 69)
  pub sign : grammar.Sign s
  pub one : is_digit_byte d ≡ true
  pub all : AreDigits more
  pub is : ds ≡ m ++ mark ∷ (s ++ d ∷ more)

-- a number up to here, of which this part came last
abbrev pub InPart : Part → List ℕ → Type 0
InPart parts.Minus ds = ds ≡ 45 ∷ []
InPart parts.Zero ds = AtZero ds
InPart parts.Whole ds = AtWhole ds
InPart parts.Point ds = AtPoint ds
InPart parts.Fraction ds = AtFraction ds
InPart parts.Mark ds = AtMark ds
InPart parts.Sign ds = AtSign ds
InPart parts.Power ds = AtPower ds

-- ---- what is whole

zero_integer : (ds : List ℕ) → AtZero ds → IsInteger ds
zero_integer ds h = record { s = h.s; w = 48 ∷ []; minus = h.minus; whole = grammar.zero_digit; is = h.is }

whole_integer : (ds : List ℕ) → AtWhole ds → IsInteger ds
whole_integer ds h = record { s = h.s; w = h.d ∷ h.more; minus = h.minus; whole = grammar.digits h.d h.more h.low h.high h.all; is = h.is }

integer_mantissa : (ds : List ℕ) → IsInteger ds → IsMantissa ds
integer_mantissa ds h = record { s = h.s; w = h.w; f = []; minus = h.minus; whole = h.whole; fraction = grammar.no_fraction; is = h.is ∙ sym (append-nil (h.s ++ h.w)) }

fraction_mantissa : (ds : List ℕ) → AtFraction ds → IsMantissa ds
fraction_mantissa ds h = record {
  s = h.integer.s;
  w = h.integer.w;
  f = 46 ∷ h.d ∷ h.more;
  minus = h.integer.minus;
  whole = h.integer.whole;
  fraction = grammar.fraction h.d h.more h.one h.all;
  is = h.is ∙ ap (λ (x : List ℕ). x ++ 46 ∷ h.d ∷ h.more) h.integer.is;
}

with_power : (m p : List ℕ) → IsMantissa m → grammar.Power p → Literal (m ++ p)
with_power m p h e = subst (λ (x : List ℕ). Literal (x ++ p)) (sym h.is) (literal h.s h.w h.f p h.minus h.whole h.fraction e)

mantissa_literal : (ds : List ℕ) → IsMantissa ds → Literal ds
mantissa_literal ds h = subst Literal (append-nil ds) (with_power ds [] h grammar.no_power)

power_literal : (ds : List ℕ) → AtPower ds → Literal ds
power_literal ds h = subst Literal (sym h.is) (with_power h.m (h.mark ∷ (h.s ++ h.d ∷ h.more)) h.mantissa (grammar.power h.mark h.s h.more h.d h.mark_is h.sign h.one h.all))

pub part_literal : (p : Part) (ds : List ℕ) → is_whole p ≡ true → InPart p ds → Literal ds
part_literal parts.Minus ds w h = absurd cc
part_literal parts.Zero ds w h = mantissa_literal ds (integer_mantissa ds (zero_integer ds h))
part_literal parts.Whole ds w h = mantissa_literal ds (integer_mantissa ds (whole_integer ds h))
part_literal parts.Point ds w h = absurd cc
part_literal parts.Fraction ds w h = mantissa_literal ds (fraction_mantissa ds h)
part_literal parts.Mark ds w h = absurd cc
part_literal parts.Sign ds w h = absurd cc
part_literal parts.Power ds w h = power_literal ds h

-- ---- one more byte

to_part : (ds : List ℕ) (p q : Part) → InPart p ds → Some p ≡ Some q → InPart q ds
to_part ds p q h e = subst (λ (x : Part). InPart x ds) (some_is p q e) h

first_digit : (b : ℕ) → eqb b 48 ≡ false → is_digit_byte b ≡ true → (49 ≤ b) × (b ≤ 57)
first_digit b ne h = (grind (arith, nat_tests), grind (arith, nat_tests))

-- behind a minus
minus_keeps : (ds : List ℕ) (b : ℕ) (q : Part) → ds ≡ 45 ∷ [] → next_part parts.Minus b ≡ Some q → InPart q (ds ++ b ∷ [])
minus_keeps ds b q h e =
    elim (chosen (eqb b 48) _ _ _ e) [
      | inl p ↦ to_part (ds ++ b ∷ []) parts.Zero q (record { s = 45 ∷ []; minus = grammar.negative; is = ap (λ (x : List ℕ). x ++ b ∷ []) h ∙ ap (λ (x : ℕ). 45 ∷ x ∷ []) (eqb-true b 48 p.0) }) p.1
      | inr p ↦ elim (chosen (is_digit_byte b) _ _ _ p.1) [
        | inl r ↦ let d = first_digit b p.0 r.0 in to_part (ds ++ b ∷ []) parts.Whole q (record { s = 45 ∷ []; d = b; more = []; minus = grammar.negative; low = d.0; high = d.1; all = tt; is = ap (λ (x : List ℕ). x ++ b ∷ []) h }) r.1
        | inr r ↦ absurd cc
      ]
    ]

mark_keeps : (ds : List ℕ) (b : ℕ) (q : Part) → IsMantissa ds → mark_of b ≡ Some q → InPart q (ds ++ b ∷ [])
mark_keeps ds b q h e =
    elim (chosen (eqb b 101) _ _ _ e) [
      | inl p ↦ to_part (ds ++ b ∷ []) parts.Mark q (record { m = ds; mark = b; mantissa = h; mark_is = inl (eqb-true b 101 p.0); is = refl }) p.1
      | inr p ↦ elim (chosen (eqb b 69) _ _ _ p.1) [
        | inl r ↦ to_part (ds ++ b ∷ []) parts.Mark q (record { m = ds; mark = b; mantissa = h; mark_is = inr (eqb-true b 69 r.0); is = refl }) r.1
        | inr r ↦ absurd cc
      ]
    ]

point_keeps : (ds : List ℕ) (b : ℕ) (q : Part) → IsInteger ds → point_of b ≡ Some q → InPart q (ds ++ b ∷ [])
point_keeps ds b q h e =
    elim (chosen (eqb b 46) _ _ _ e) [
      | inl p ↦ to_part (ds ++ b ∷ []) parts.Point q (record { i = ds; integer = h; is = ap (λ (x : ℕ). ds ++ x ∷ []) (eqb-true b 46 p.0) }) p.1
      | inr p ↦ mark_keeps ds b q (integer_mantissa ds h) p.1
    ]

whole_keeps : (ds : List ℕ) (b : ℕ) (q : Part) → AtWhole ds → next_part parts.Whole b ≡ Some q → InPart q (ds ++ b ∷ [])
whole_keeps ds b q h e =
    elim (chosen (is_digit_byte b) _ _ _ e) [
      | inl p ↦ to_part (ds ++ b ∷ []) parts.Whole q (record { s = h.s; d = h.d; more = h.more ++ b ∷ []; minus = h.minus; low = h.low; high = h.high; all = digits_push h.more b h.all p.0; is = ap (λ (x : List ℕ). x ++ b ∷ []) h.is ∙ append_assoc h.s (h.d ∷ h.more) (b ∷ []) }) p.1
      | inr p ↦ point_keeps ds b q (whole_integer ds h) p.1
    ]

fraction_begins : (ds : List ℕ) (b : ℕ) (q : Part) → AtPoint ds → next_part parts.Point b ≡ Some q → InPart q (ds ++ b ∷ [])
fraction_begins ds b q h e =
    elim (chosen (is_digit_byte b) _ _ _ e) [
      | inl p ↦ to_part (ds ++ b ∷ []) parts.Fraction q (record { i = h.i; d = b; more = []; integer = h.integer; one = p.0; all = tt; is = ap (λ (x : List ℕ). x ++ b ∷ []) h.is ∙ append_assoc h.i (46 ∷ []) (b ∷ []) }) p.1
      | inr p ↦ absurd cc
    ]

fraction_keeps : (ds : List ℕ) (b : ℕ) (q : Part) → AtFraction ds → next_part parts.Fraction b ≡ Some q → InPart q (ds ++ b ∷ [])
fraction_keeps ds b q h e =
    elim (chosen (is_digit_byte b) _ _ _ e) [
      | inl p ↦ to_part (ds ++ b ∷ []) parts.Fraction q (record { i = h.i; d = h.d; more = h.more ++ b ∷ []; integer = h.integer; one = h.one; all = digits_push h.more b h.all p.0; is = ap (λ (x : List ℕ). x ++ b ∷ []) h.is ∙ append_assoc h.i (46 ∷ h.d ∷ h.more) (b ∷ []) }) p.1
      | inr p ↦ mark_keeps ds b q (fraction_mantissa ds h) p.1
    ]

power_begins : (ds : List ℕ) (b : ℕ) (q : Part) (m : List ℕ) (mark : ℕ) (s : List ℕ) → IsMantissa m → (mark ≡ 101) ⊎ (mark ≡ 69) → grammar.Sign s → ds ≡ m ++ mark ∷ s → power_of b ≡ Some q → InPart q (ds ++ b ∷ [])
power_begins ds b q m mark s mantissa mark_is sign is e =
    elim (chosen (is_digit_byte b) _ _ _ e) [
      | inl p ↦ to_part (ds ++ b ∷ []) parts.Power q (record { m = m; mark = mark; s = s; d = b; more = []; mantissa = mantissa; mark_is = mark_is; sign = sign; one = p.0; all = tt; is = ap (λ (x : List ℕ). x ++ b ∷ []) is ∙ append_assoc m (mark ∷ s) (b ∷ []) }) p.1
      | inr p ↦ absurd cc
    ]

sign_keeps : (ds : List ℕ) (b : ℕ) (q : Part) → AtMark ds → next_part parts.Mark b ≡ Some q → InPart q (ds ++ b ∷ [])
sign_keeps ds b q h e =
    elim (chosen (eqb b 43) _ _ _ e) [
      | inl p ↦ to_part (ds ++ b ∷ []) parts.Sign q (signed 43 grammar.plus (eqb-true b 43 p.0)) p.1
      | inr p ↦ elim (chosen (eqb b 45) _ _ _ p.1) [
        | inl r ↦ to_part (ds ++ b ∷ []) parts.Sign q (signed 45 grammar.minus (eqb-true b 45 r.0)) r.1
        | inr r ↦ power_begins ds b q h.m h.mark [] h.mantissa h.mark_is grammar.no_sign h.is r.1
      ]
    ]
  where
    signed : (s : ℕ) → grammar.Sign (s ∷ []) → b ≡ s → AtSign (ds ++ b ∷ [])
    signed s sign e = record { m = h.m; mark = h.mark; s = s; mantissa = h.mantissa; mark_is = h.mark_is; sign = sign; is = ap (λ (x : List ℕ). x ++ b ∷ []) h.is ∙ append_assoc h.m (h.mark ∷ []) (b ∷ []) ∙ ap (λ (x : ℕ). h.m ++ h.mark ∷ x ∷ []) e }

power_keeps : (ds : List ℕ) (b : ℕ) (q : Part) → AtPower ds → next_part parts.Power b ≡ Some q → InPart q (ds ++ b ∷ [])
power_keeps ds b q h e =
    elim (chosen (is_digit_byte b) _ _ _ e) [
      | inl p ↦ to_part (ds ++ b ∷ []) parts.Power q (record {
        m = h.m;
        mark = h.mark;
        s = h.s;
        d = h.d;
        more = h.more ++ b ∷ [];
        mantissa = h.mantissa;
        mark_is = h.mark_is;
        sign = h.sign;
        one = h.one;
        all = digits_push h.more b h.all p.0;
        is = ap (λ (x : List ℕ). x ++ b ∷ []) h.is ∙ simp append_assoc;
      }) p.1
      | inr p ↦ absurd cc
    ]

pub part_keeps : (p : Part) (ds : List ℕ) (b : ℕ) (q : Part) → InPart p ds → next_part p b ≡ Some q → InPart q (ds ++ b ∷ [])
part_keeps parts.Minus ds b q h e = minus_keeps ds b q h e
part_keeps parts.Zero ds b q h e = point_keeps ds b q (zero_integer ds h) e
part_keeps parts.Whole ds b q h e = whole_keeps ds b q h e
part_keeps parts.Point ds b q h e = fraction_begins ds b q h e
part_keeps parts.Fraction ds b q h e = fraction_keeps ds b q h e
part_keeps parts.Mark ds b q h e = sign_keeps ds b q h e
part_keeps parts.Sign ds b q h e = power_begins ds b q h.m h.mark (h.s ∷ []) h.mantissa h.mark_is h.sign h.is e
part_keeps parts.Power ds b q h e = power_keeps ds b q h e

-- the first byte
pub minus_part : InPart parts.Minus (45 ∷ [])
minus_part = refl

pub zero_part : InPart parts.Zero (48 ∷ [])
zero_part = record { s = []; minus = grammar.positive; is = refl }

pub whole_part : (b : ℕ) → 49 ≤ b → b ≤ 57 → InPart parts.Whole (b ∷ [])
whole_part b low high = record { s = []; d = b; more = []; minus = grammar.positive; low = low; high = high; all = tt; is = refl }
