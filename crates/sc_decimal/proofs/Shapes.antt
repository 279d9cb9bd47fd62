-- What a text is that is seen to be a number.
use Rattle.std.proofs.Common.{◌≡◌, ℕ, ◌+◌, ◌-◌, ◌*◌, List, [], ◌∷◌, ◌++◌, length, append_assoc, refl, sym, ap, subst, ◌∙◌, ◌⊎◌, inl, inr, arith, ℤ, pos, Bool, true, false, cond, eqb, Option, Some, None}
use Rattle.std.proofs.lemmas.Bool.{eqb-true}
use Rattle.std.specs.Option.{option_map_or}
use Rattle.std.specs.Str.Parse.{digits_value, digits_value_after}
use Rattle.sc_decimal.specs.declared.form.Form.{Form}
use Rattle.sc_decimal.specs.declared.form.Form.TheVariants.{Signed, Whole, Point, Fraction, Mark, MarkSigned, Power}
use Rattle.sc_decimal.specs.Number.{signed}
use Rattle.sc_decimal.specs.Digits.{Digits, Seen, add_digit, is_digit, seen_step, seen_from, nothing_seen, whole_seen}
use Rattle.sc_decimal.specs.Numeral.{AreDigits, IsRow, Sign, no_sign, plus, minus, Mantissa, Exponent, no_exponent, exponent}
use Rattle.sc_decimal.specs.Numeral as numerals
use Rattle.sc_decimal.proofs.Parts.{seen, no_digits, add_digits, add_digits-append, digit_value_is, HasParts}

-- reading on from a state to the end
abbrev run_on : List ℕ → Option Seen → Option Seen
run_on bs o = whole_seen (option_map_or (seen_from bs) o None)

power_shape : (bs : List ℕ) (n : Bool) (g : Digits) (p : ℕ) (x : Bool) (w : ℕ) (t : Seen) → whole_seen (seen_from bs (seen Power n g p x w)) ≡ Some t → AreDigits bs × (t ≡ seen Power n g p x (digits_value_after 10 w bs))
unfolding seen_from seen_step
power_shape [] n g p x w t h = (tt, cc)
power_shape (c ∷ cs) n g p x w t h = go (λ k. power_shape cs n g p x k t) (is_digit c) refl h
  where
    go : ((k : ℕ) → whole_seen (seen_from cs (seen Power n g p x k)) ≡ Some t → AreDigits cs × (t ≡ seen Power n g p x (digits_value_after 10 k cs)))
        → (b : Bool) → is_digit c ≡ b → run_on cs (cond {A = Option Seen} b (Some (seen Power n g p x (w * 10 + (c - 48)))) None) ≡ Some t → AreDigits (c ∷ cs) × (t ≡ seen Power n g p x (digits_value_after 10 w (c ∷ cs)))
    go k true e h =
        let r = k (w * 10 + (c - 48)) h in
        ((e, r.0), r.1 ∙ ap (λ (v : ℕ). seen Power n g p x (digits_value_after 10 (w * 10 + v) cs)) (sym (digit_value_is c e)))
    go k false e h = absurd cc

-- a row of digits behind the mark and its sign
row_shape : (c : ℕ) (cs : List ℕ) (n : Bool) (g : Digits) (p : ℕ) (x : Bool) (t : Seen) → run_on cs (cond {A = Option Seen} (is_digit c) (Some (seen Power n g p x (0 * 10 + (c - 48)))) None) ≡ Some t → IsRow (c ∷ cs) × (t ≡ seen Power n g p x (digits_value 10 (c ∷ cs)))
row_shape c cs n g p x t h = go (is_digit c) refl h
  where
    go : (b : Bool) → is_digit c ≡ b → run_on cs (cond {A = Option Seen} b (Some (seen Power n g p x (0 * 10 + (c - 48)))) None) ≡ Some t → IsRow (c ∷ cs) × (t ≡ seen Power n g p x (digits_value 10 (c ∷ cs)))
    go true e h =
        let r = power_shape cs n g p x (0 * 10 + (c - 48)) t h in
        ((e, r.0), r.1 ∙ ap (λ (v : ℕ). seen Power n g p x (digits_value_after 10 (0 * 10 + v) cs)) (sym (digit_value_is c e)))
    go false e h = absurd cc

mark_signed_shape : (bs : List ℕ) (n : Bool) (g : Digits) (p : ℕ) (x : Bool) (t : Seen) → whole_seen (seen_from bs (seen MarkSigned n g p x 0)) ≡ Some t → IsRow bs × (t ≡ seen Power n g p x (digits_value 10 bs))
unfolding seen_from seen_step
mark_signed_shape [] n g p x t h = absurd cc
mark_signed_shape (c ∷ cs) n g p x t h = row_shape c cs n g p x t h

-- what stands behind a mantissa
pub record Behind (bs : List ℕ) (t : Seen) (n : Bool) (g : Digits) (p : ℕ) : Type 0 where
  pub e : ℤ
  pub is_exponent : Exponent bs e
  pub parts : HasParts t n g p e

powered : (t : Seen) (n : Bool) (g : Digits) (p : ℕ) (x : Bool) (w : ℕ) → t ≡ seen Power n g p x w → HasParts t n g p (signed x w)
powered t n g p x w h = record { neg_is = ap (λ (s : Seen). s.neg) h; digits_is = ap (λ (s : Seen). s.digits) h; places_is = ap (λ (s : Seen). s.places) h; power_is = sym (ap (λ (s : Seen). signed s.below s.power) h) }

mark_shape : (mark : ℕ) → (mark ≡ 101) ⊎ (mark ≡ 69) → (bs : List ℕ) (n : Bool) (g : Digits) (p : ℕ) (t : Seen) → whole_seen (seen_from bs (seen Mark n g p false 0)) ≡ Some t → Behind (mark ∷ bs) t n g p
unfolding seen_from seen_step
mark_shape mark i [] n g p t h = absurd cc
mark_shape mark i (c ∷ cs) n g p t h = go (eqb c 43) refl h
  where
    last : (b : Bool) → eqb c 45 ≡ b → run_on cs (cond {A = Option Seen} b (Some (seen MarkSigned n g p true 0)) (cond {A = Option Seen} (is_digit c) (Some (seen Power n g p false (0 * 10 + (c - 48)))) None)) ≡ Some t → Behind (mark ∷ c ∷ cs) t n g p
    last true e h =
        let r = mark_signed_shape cs n g p true t h in
        let is : c ≡ 45 = eqb-true c 45 e in
        rw is (record { e = signed true (digits_value 10 cs); is_exponent = exponent mark (45 ∷ []) cs true i minus r.0; parts = powered t n g p true (digits_value 10 cs) r.1 })
    last false e h =
        let r = row_shape c cs n g p false t h in
        record { e = signed false (digits_value 10 (c ∷ cs)); is_exponent = exponent mark [] (c ∷ cs) false i no_sign r.0; parts = powered t n g p false (digits_value 10 (c ∷ cs)) r.1 }

    go : (b : Bool) → eqb c 43 ≡ b → run_on cs (cond {A = Option Seen} b (Some (seen MarkSigned n g p false 0)) (cond {A = Option Seen} (eqb c 45) (Some (seen MarkSigned n g p true 0)) (cond {A = Option Seen} (is_digit c) (Some (seen Power n g p false (0 * 10 + (c - 48)))) None))) ≡ Some t → Behind (mark ∷ c ∷ cs) t n g p
    go true e h =
        let r = mark_signed_shape cs n g p false t h in
        let is : c ≡ 43 = eqb-true c 43 e in
        rw is (record { e = signed false (digits_value 10 cs); is_exponent = exponent mark (43 ∷ []) cs false i plus r.0; parts = powered t n g p false (digits_value 10 cs) r.1 })
    go false e h = last (eqb c 45) refl h

nothing_behind : (t : Seen) (f : Form) (n : Bool) (g : Digits) (p : ℕ) → Some (seen f n g p false 0) ≡ Some t → Behind [] t n g p
nothing_behind t f n g p h =
    let e : seen f n g p false 0 ≡ t = cc in
    record { e = pos 0; is_exponent = no_exponent; parts = record { neg_is = sym (ap (λ (s : Seen). s.neg) e); digits_is = sym (ap (λ (s : Seen). s.digits) e); places_is = sym (ap (λ (s : Seen). s.places) e); power_is = ap (λ (s : Seen). signed s.below s.power) e } }

-- digits behind the point, and what stands behind them
pub record Fractions (bs : List ℕ) (t : Seen) (n : Bool) (g : Digits) (p : ℕ) : Type 0 where
  pub digits : List ℕ
  pub rest : List ℕ
  pub is : bs ≡ digits ++ rest
  pub are_digits : AreDigits digits
  pub behind : Behind rest t n (add_digits g digits) (p + length digits)

no_more : {t : Seen} {n : Bool} {g : Digits} {p : ℕ} (bs : List ℕ) → Behind bs t n g p → Fractions bs t n g p
no_more {t} {n} {g} {p} bs b = record { digits = []; rest = bs; is = refl; are_digits = tt; behind = subst (λ (k : ℕ). Behind bs t n g k) (omega arith) b }

one_more : {t : Seen} {n : Bool} {g : Digits} {p : ℕ} (c : ℕ) (cs : List ℕ) → is_digit c ≡ true → Fractions cs t n (add_digit g (c - 48)) (p + 1) → Fractions (c ∷ cs) t n g p
one_more {t} {n} {g} {p} c cs e f = record {
  digits = c ∷ f.digits;
  rest = f.rest;
  is = ap (λ (xs : List ℕ). c ∷ xs) f.is;
  are_digits = (e, f.are_digits);
  behind = let k : p + 1 + length f.digits ≡ p + length (c ∷ f.digits) = omega arith in subst (λ (q : ℕ). Behind f.rest t n (add_digits g (c ∷ f.digits)) q) k f.behind;
}

fraction_shape : (bs : List ℕ) (n : Bool) (g : Digits) (p : ℕ) (t : Seen) → whole_seen (seen_from bs (seen Fraction n g p false 0)) ≡ Some t → Fractions bs t n g p
unfolding seen_from seen_step
fraction_shape [] n g p t h = no_more [] (nothing_behind t Fraction n g p h)
fraction_shape (c ∷ cs) n g p t h = go (λ k. fraction_shape cs n (add_digit g (c - 48)) (p + 1) t k) (eqb c 101) refl h
  where
    digit : (whole_seen (seen_from cs (seen Fraction n (add_digit g (c - 48)) (p + 1) false 0)) ≡ Some t → Fractions cs t n (add_digit g (c - 48)) (p + 1))
        → (b : Bool) → is_digit c ≡ b → run_on cs (cond {A = Option Seen} b (Some (seen Fraction n (add_digit g (c - 48)) (p + 1) false 0)) None) ≡ Some t → Fractions (c ∷ cs) t n g p
    digit k true e h = one_more c cs e (k h)
    digit k false e h = absurd cc

    capital : (whole_seen (seen_from cs (seen Fraction n (add_digit g (c - 48)) (p + 1) false 0)) ≡ Some t → Fractions cs t n (add_digit g (c - 48)) (p + 1))
        → (b : Bool) → eqb c 69 ≡ b → run_on cs (cond {A = Option Seen} b (Some (seen Mark n g p false 0)) (cond {A = Option Seen} (is_digit c) (Some (seen Fraction n (add_digit g (c - 48)) (p + 1) false 0)) None)) ≡ Some t → Fractions (c ∷ cs) t n g p
    capital k true e h = no_more (c ∷ cs) (mark_shape c (inr (eqb-true c 69 e)) cs n g p t h)
    capital k false e h = digit k (is_digit c) refl h

    go : (whole_seen (seen_from cs (seen Fraction n (add_digit g (c - 48)) (p + 1) false 0)) ≡ Some t → Fractions cs t n (add_digit g (c - 48)) (p + 1))
        → (b : Bool) → eqb c 101 ≡ b → run_on cs (cond {A = Option Seen} b (Some (seen Mark n g p false 0)) (cond {A = Option Seen} (eqb c 69) (Some (seen Mark n g p false 0)) (cond {A = Option Seen} (is_digit c) (Some (seen Fraction n (add_digit g (c - 48)) (p + 1) false 0)) None))) ≡ Some t → Fractions (c ∷ cs) t n g p
    go k true e h = no_more (c ∷ cs) (mark_shape c (inl (eqb-true c 101 e)) cs n g p t h)
    go k false e h = capital k (eqb c 69) refl h

-- a row of digits behind the point
pub record Pointed (bs : List ℕ) (t : Seen) (n : Bool) (g : Digits) : Type 0 where
  pub digits : List ℕ
  pub rest : List ℕ
  pub is : bs ≡ digits ++ rest
  pub is_row : IsRow digits
  pub behind : Behind rest t n (add_digits g digits) (length digits)

point_shape : (bs : List ℕ) (n : Bool) (g : Digits) (t : Seen) → whole_seen (seen_from bs (seen Point n g 0 false 0)) ≡ Some t → Pointed bs t n g
unfolding seen_from seen_step
point_shape [] n g t h = absurd cc
point_shape (c ∷ cs) n g t h = go (is_digit c) refl h
  where
    go : (b : Bool) → is_digit c ≡ b → run_on cs (cond {A = Option Seen} b (Some (seen Fraction n (add_digit g (c - 48)) (0 + 1) false 0)) None) ≡ Some t → Pointed (c ∷ cs) t n g
    go true e h =
        let f = fraction_shape cs n (add_digit g (c - 48)) (0 + 1) t h in
        let k : 0 + 1 + length f.digits ≡ length (c ∷ f.digits) = omega arith in
        record { digits = c ∷ f.digits; rest = f.rest; is = ap (λ (xs : List ℕ). c ∷ xs) f.is; is_row = (e, f.are_digits); behind = subst (λ (q : ℕ). Behind f.rest t n (add_digits g (c ∷ f.digits)) q) k f.behind }
    go false e h = absurd cc

-- digits, then what ends the mantissa or a point with digits
data Ending (t : Seen) (n : Bool) (g : Digits) : List ℕ → Type 0 where
  ends : (rest : List ℕ) → Behind rest t n g 0 → Ending t n g rest
  points : (rest : List ℕ) → Pointed rest t n g → Ending t n g (46 ∷ rest)

record Wholes (bs : List ℕ) (t : Seen) (n : Bool) (g : Digits) : Type 0 where
  digits : List ℕ
  rest : List ℕ
  is : bs ≡ digits ++ rest
  are_digits : AreDigits digits
  ending : Ending t n (add_digits g digits) rest

no_whole : {t : Seen} {n : Bool} {g : Digits} (bs : List ℕ) → Ending t n g bs → Wholes bs t n g
no_whole bs e = record { digits = []; rest = bs; is = refl; are_digits = tt; ending = e }

one_whole : {t : Seen} {n : Bool} {g : Digits} (c : ℕ) (cs : List ℕ) → is_digit c ≡ true → Wholes cs t n (add_digit g (c - 48)) → Wholes (c ∷ cs) t n g
one_whole c cs e f = record { digits = c ∷ f.digits; rest = f.rest; is = ap (λ (xs : List ℕ). c ∷ xs) f.is; are_digits = (e, f.are_digits); ending = f.ending }

whole_shape : (bs : List ℕ) (n : Bool) (g : Digits) (t : Seen) → whole_seen (seen_from bs (seen Whole n g 0 false 0)) ≡ Some t → Wholes bs t n g
unfolding seen_from seen_step
whole_shape [] n g t h = no_whole [] (ends [] (nothing_behind t Whole n g 0 h))
whole_shape (c ∷ cs) n g t h = go (λ k. whole_shape cs n (add_digit g (c - 48)) t k) (eqb c 46) refl h
  where
    digit : (whole_seen (seen_from cs (seen Whole n (add_digit g (c - 48)) 0 false 0)) ≡ Some t → Wholes cs t n (add_digit g (c - 48)))
        → (b : Bool) → is_digit c ≡ b → run_on cs (cond {A = Option Seen} b (Some (seen Whole n (add_digit g (c - 48)) 0 false 0)) None) ≡ Some t → Wholes (c ∷ cs) t n g
    digit k true e h = one_whole c cs e (k h)
    digit k false e h = absurd cc

    capital : (whole_seen (seen_from cs (seen Whole n (add_digit g (c - 48)) 0 false 0)) ≡ Some t → Wholes cs t n (add_digit g (c - 48)))
        → (b : Bool) → eqb c 69 ≡ b → run_on cs (cond {A = Option Seen} b (Some (seen Mark n g 0 false 0)) (cond {A = Option Seen} (is_digit c) (Some (seen Whole n (add_digit g (c - 48)) 0 false 0)) None)) ≡ Some t → Wholes (c ∷ cs) t n g
    capital k true e h = no_whole (c ∷ cs) (ends (c ∷ cs) (mark_shape c (inr (eqb-true c 69 e)) cs n g 0 t h))
    capital k false e h = digit k (is_digit c) refl h

    small : (whole_seen (seen_from cs (seen Whole n (add_digit g (c - 48)) 0 false 0)) ≡ Some t → Wholes cs t n (add_digit g (c - 48)))
        → (b : Bool) → eqb c 101 ≡ b → run_on cs (cond {A = Option Seen} b (Some (seen Mark n g 0 false 0)) (cond {A = Option Seen} (eqb c 69) (Some (seen Mark n g 0 false 0)) (cond {A = Option Seen} (is_digit c) (Some (seen Whole n (add_digit g (c - 48)) 0 false 0)) None))) ≡ Some t → Wholes (c ∷ cs) t n g
    small k true e h = no_whole (c ∷ cs) (ends (c ∷ cs) (mark_shape c (inl (eqb-true c 101 e)) cs n g 0 t h))
    small k false e h = capital k (eqb c 69) refl h

    go : (whole_seen (seen_from cs (seen Whole n (add_digit g (c - 48)) 0 false 0)) ≡ Some t → Wholes cs t n (add_digit g (c - 48)))
        → (b : Bool) → eqb c 46 ≡ b → run_on cs (cond {A = Option Seen} b (Some (seen Point n g 0 false 0)) (cond {A = Option Seen} (eqb c 101) (Some (seen Mark n g 0 false 0)) (cond {A = Option Seen} (eqb c 69) (Some (seen Mark n g 0 false 0)) (cond {A = Option Seen} (is_digit c) (Some (seen Whole n (add_digit g (c - 48)) 0 false 0)) None)))) ≡ Some t → Wholes (c ∷ cs) t n g
    go k true e h = let is : c ≡ 46 = eqb-true c 46 e in rw is (no_whole (46 ∷ cs) (points cs (point_shape cs n g t h)))
    go k false e h = small k (eqb c 101) refl h

-- a mantissa and what stands behind it
pub record Body (bs : List ℕ) (t : Seen) (n : Bool) : Type 0 where
  pub mantissa : List ℕ
  pub digits : List ℕ
  pub places : ℕ
  pub is_mantissa : Mantissa mantissa digits places
  pub rest : List ℕ
  pub is : bs ≡ mantissa ++ rest
  pub behind : Behind rest t n (add_digits no_digits digits) places

row_ended : (t : Seen) (n : Bool) (ds rest : List ℕ) → IsRow ds → Ending t n (add_digits no_digits ds) rest → Body (ds ++ rest) t n
row_ended t n ds rest row (ends _ b) = record { mantissa = ds; digits = ds; places = 0; is_mantissa = numerals.whole ds row; rest = rest; is = refl; behind = b }
row_ended t n ds _ row (points rest f) = record {
  mantissa = ds ++ 46 ∷ f.digits;
  digits = ds ++ f.digits;
  places = length f.digits;
  is_mantissa = numerals.mixed ds f.digits row f.is_row;
  rest = f.rest;
  is = ap (λ (xs : List ℕ). ds ++ 46 ∷ xs) f.is ∙ sym (append_assoc ds (46 ∷ f.digits) f.rest);
  behind = subst (λ (g : Digits). Behind f.rest t n g (length f.digits)) (sym (add_digits-append no_digits ds f.digits)) f.behind;
}

body_digit : (c : ℕ) (cs : List ℕ) (n : Bool) (t : Seen) → run_on cs (cond {A = Option Seen} (is_digit c) (Some (seen Whole n (add_digit no_digits (c - 48)) 0 false 0)) None) ≡ Some t → Body (c ∷ cs) t n
body_digit c cs n t h = go (is_digit c) refl h
  where
    go : (b : Bool) → is_digit c ≡ b → run_on cs (cond {A = Option Seen} b (Some (seen Whole n (add_digit no_digits (c - 48)) 0 false 0)) None) ≡ Some t → Body (c ∷ cs) t n
    go true e h =
        let w = whole_shape cs n (add_digit no_digits (c - 48)) t h in
        subst (λ (xs : List ℕ). Body (c ∷ xs) t n) (sym w.is) (row_ended t n (c ∷ w.digits) w.rest (e, w.are_digits) w.ending)
    go false e h = absurd cc

body_shape : (c : ℕ) (cs : List ℕ) (n : Bool) (t : Seen) → run_on cs (cond {A = Option Seen} (eqb c 46) (Some (seen Point n no_digits 0 false 0)) (cond {A = Option Seen} (is_digit c) (Some (seen Whole n (add_digit no_digits (c - 48)) 0 false 0)) None)) ≡ Some t → Body (c ∷ cs) t n
body_shape c cs n t h = go (eqb c 46) refl h
  where
    go : (b : Bool) → eqb c 46 ≡ b → run_on cs (cond {A = Option Seen} b (Some (seen Point n no_digits 0 false 0)) (cond {A = Option Seen} (is_digit c) (Some (seen Whole n (add_digit no_digits (c - 48)) 0 false 0)) None)) ≡ Some t → Body (c ∷ cs) t n
    go true e h =
        let f = point_shape cs n no_digits t h in
        let is : c ≡ 46 = eqb-true c 46 e in
        rw is (record { mantissa = 46 ∷ f.digits; digits = f.digits; places = length f.digits; is_mantissa = numerals.fraction f.digits f.is_row; rest = f.rest; is = ap (λ (xs : List ℕ). 46 ∷ xs) f.is; behind = f.behind })
    go false e h = body_digit c cs n t h

signed_shape : (bs : List ℕ) (n : Bool) (t : Seen) → whole_seen (seen_from bs (seen Signed n no_digits 0 false 0)) ≡ Some t → Body bs t n
unfolding seen_from seen_step
signed_shape [] n t h = absurd cc
signed_shape (c ∷ cs) n t h = body_shape c cs n t h

-- a sign and the rest
pub record Shape (bs : List ℕ) (t : Seen) : Type 0 where
  pub sign : List ℕ
  pub neg : Bool
  pub is_sign : Sign sign neg
  pub rest : List ℕ
  pub is : bs ≡ sign ++ rest
  pub body : Body rest t neg

pub text_shape : (bs : List ℕ) (t : Seen) → whole_seen (seen_from bs nothing_seen) ≡ Some t → Shape bs t
unfolding seen_from seen_step
text_shape [] t h = absurd cc
text_shape (c ∷ cs) t h = go (eqb c 43) refl h
  where
    minus_or : (b : Bool) → eqb c 45 ≡ b → run_on cs (cond {A = Option Seen} b (Some (seen Signed true no_digits 0 false 0)) (cond {A = Option Seen} (eqb c 46) (Some (seen Point false no_digits 0 false 0)) (cond {A = Option Seen} (is_digit c) (Some (seen Whole false (add_digit no_digits (c - 48)) 0 false 0)) None))) ≡ Some t → Shape (c ∷ cs) t
    minus_or true e h = let is : c ≡ 45 = eqb-true c 45 e in rw is (record { sign = 45 ∷ []; neg = true; is_sign = minus; rest = cs; is = refl; body = signed_shape cs true t h })
    minus_or false e h = record { sign = []; neg = false; is_sign = no_sign; rest = c ∷ cs; is = refl; body = body_shape c cs false t h }

    go : (b : Bool) → eqb c 43 ≡ b → run_on cs (cond {A = Option Seen} b (Some (seen Signed false no_digits 0 false 0)) (cond {A = Option Seen} (eqb c 45) (Some (seen Signed true no_digits 0 false 0)) (cond {A = Option Seen} (eqb c 46) (Some (seen Point false no_digits 0 false 0)) (cond {A = Option Seen} (is_digit c) (Some (seen Whole false (add_digit no_digits (c - 48)) 0 false 0)) None)))) ≡ Some t → Shape (c ∷ cs) t
    go true e h = let is : c ≡ 43 = eqb-true c 43 e in rw is (record { sign = 43 ∷ []; neg = false; is_sign = plus; rest = cs; is = refl; body = signed_shape cs false t h })
    go false e h = minus_or (eqb c 45) refl h
