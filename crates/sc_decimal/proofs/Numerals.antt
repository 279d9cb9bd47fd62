-- What is seen of a text is the number that its parts make.
use Rattle.std.proofs.Common.{◌≡◌, ◌≢◌, ℕ, ◌+◌, ◌-◌, ◌*◌, ◌%◌, ◌^◌, ◌<◌, List, [], ◌∷◌, ◌++◌, refl, sym, ap, subst, ◌∙◌, arith, ℤ, pos, ◌+ℤ◌, ◌-ℤ◌, ◌≤ℤ◌, Bool, true, false, not, cond, eqb, Option, Some, None, Result, Ok, Err, Equal}
use Rattle.std.proofs.lemmas.Bool.{eqb-true, eq-eqb}
use Rattle.std.proofs.lemmas.Bool.Decides.{nat_tests}
use Rattle.std.proofs.lemmas.Int.{ints, clamps}
use Rattle.std.proofs.lemmas.Nat.{pow-add}
use Rattle.std.proofs.Math.Nat.{mul_assoc}
use Rattle.std.specs.Int.{int_min}
use Rattle.std.specs.Str.Parse.{digits_value, digits_value_after}
use Rattle.sc_decimal.specs.Number.{Number, signed, above, number_in, order_of, IsNormal, IsNarrow, zero_number}
use Rattle.sc_decimal.specs.Digits.{Digits, Seen, add_digit, seen_of, seen_from, nothing_seen, whole_seen}
use Rattle.sc_decimal.specs.Value.{exponent_of, exponent, normal, is_narrow, is_number, number_of, is_wide, AnswersSeen}
use Rattle.std.specs.Option.{option_map_or}
use Rattle.sc_decimal.specs.Numeral.{AreDigits, IsRow, Sign, Mantissa, Exponent, IsNumeral, Reads}
use Rattle.sc_decimal.specs.Numeral as numerals
use Rattle.sc_decimal.specs.declared.number.NumFault.{NumFault}
use Rattle.sc_decimal.specs.declared.number.NumFault.TheVariants.{NotANumber, NumberTooWide}
use Rattle.sc_decimal.proofs.Nearest.{above_itself}
use Rattle.sc_decimal.proofs.Order.{above_is, equal_int, int_equal, order_at, normal_same}
use Rattle.sc_decimal.proofs.Parts.{no_digits, add_digits, digit_range, digit_value_is, HasParts, numeral_run}
use Rattle.sc_decimal.proofs.Shapes.{text_shape}

-- ---- the digits' value

abbrev worth : Digits → ℕ
worth g = g.m * 10 ^ g.zeros

one_more_zero : (m z : ℕ) → m * 10 ^ (z + 1) ≡ m * 10 ^ z * 10
one_more_zero m z = ap (λ (x : ℕ). m * x) (pow-add 10 z 1) ∙ sym (mul_assoc m (10 ^ z) 10)

worth_step : (g : Digits) (d : ℕ) → worth (add_digit g d) ≡ worth g * 10 + d
worth_step g d = go (eqb d 0) (eqb g.m 0) (eqb-true d 0) (eqb-true g.m 0)
  where
    go : (a b : Bool) → (a ≡ true → d ≡ 0) → (b ≡ true → g.m ≡ 0) → worth (cond {A = Digits} a (cond {A = Digits} b (record { m = 0; zeros = 0 }) (record { m = g.m; zeros = g.zeros + 1 })) (record { m = g.m * 10 ^ (g.zeros + 1) + d; zeros = 0 })) ≡ worth g * 10 + d
    go true true e f = rw (e refl, f refl) (omega arith)
    go true false e f = rw (e refl) (one_more_zero g.m g.zeros ∙ omega arith)
    go false b e f = let h = one_more_zero g.m g.zeros in omega (arith, h)

worth_digits : (ds : List ℕ) → AreDigits ds → (g : Digits) → worth (add_digits g ds) ≡ digits_value_after 10 (worth g) ds
worth_digits [] h g = refl
worth_digits (c ∷ cs) h g =
    worth_digits cs h.1 (add_digit g (c - 48))
    ∙ ap (λ (v : ℕ). digits_value_after 10 v cs) (worth_step g (c - 48))
    ∙ ap (λ (v : ℕ). digits_value_after 10 (worth g * 10 + v) cs) (sym (digit_value_is c h.0))

abbrev IsTrimmed : Digits → Type 0
IsTrimmed g = g.m % 10 ≡ 0 → g.m ≡ 0

trimmed_step : (g : Digits) (d : ℕ) → d < 10 → IsTrimmed g → IsTrimmed (add_digit g d)
trimmed_step g d small t = go (eqb d 0) (eqb g.m 0) (λ e. ne_of d e)
  where
    ne_of : (d : ℕ) → eqb d 0 ≡ false → d ≢ 0
    ne_of d e f = absurd (let h : eqb d 0 ≡ true = eq-eqb d 0 f in cc)

    go : (a b : Bool) → (a ≡ false → d ≢ 0) → IsTrimmed (cond {A = Digits} a (cond {A = Digits} b (record { m = 0; zeros = 0 }) (record { m = g.m; zeros = g.zeros + 1 })) (record { m = g.m * 10 ^ (g.zeros + 1) + d; zeros = 0 }))
    go true true e = λ h. refl
    go true false e = t
    go false b e = λ h. absurd (let k = one_more_zero g.m g.zeros in e refl (omega (arith, k, h)))

trimmed_digits : (ds : List ℕ) → AreDigits ds → (g : Digits) → IsTrimmed g → IsTrimmed (add_digits g ds)
trimmed_digits [] h g t = t
trimmed_digits (c ∷ cs) h g t = let r = digit_range c h.0 in trimmed_digits cs h.1 (add_digit g (c - 48)) (trimmed_step g (c - 48) (omega arith) t)

row_digits : (ds : List ℕ) → IsRow ds → AreDigits ds
row_digits [] h = absurd h
row_digits (c ∷ cs) h = h

digits-append : (xs ys : List ℕ) → AreDigits xs → AreDigits ys → AreDigits (xs ++ ys)
digits-append [] ys h k = k
digits-append (x ∷ xs) ys h k = (h.0, digits-append xs ys h.1 k)

mantissa_digits : {m ds : List ℕ} {p : ℕ} → Mantissa m ds p → AreDigits ds
mantissa_digits (numerals.whole ds row) = row_digits ds row
mantissa_digits (numerals.mixed ds fs row part) = digits-append ds fs (row_digits ds row) (row_digits fs part)
mantissa_digits (numerals.fraction fs part) = row_digits fs part

-- ---- equal numbers

none_in : (l : ℤ) (x : Number) → x.m ≡ 0 → number_in l x ≡ pos 0
none_in l x e = ap (λ (k : ℕ). signed x.neg (k * 10 ^ above x.e l)) e ∙ ap (signed x.neg) (omega arith) ∙ none x.neg
  where
    none : (s : Bool) → signed s 0 ≡ pos 0
    none false = refl
    none true = refl

pub zero_equal : (x : Number) → x.m ≡ 0 → order_of zero_number x ≡ Equal
unfolding order_of
zero_equal x e = equal_int _ _ (none_in (int_min (pos 0) x.e) zero_number refl ∙ sym (none_in (int_min (pos 0) x.e) x e))

pub scaled_equal : (neg : Bool) (m z v : ℕ) (high low : ℤ) → high ≡ low +ℤ pos z → m * 10 ^ z ≡ v → order_of (record { neg = neg; m = m; e = high }) (record { neg = neg; m = v; e = low }) ≡ Equal
scaled_equal neg m z v high low is e =
    let le : low ≤ℤ high = omega (arith, ints) in
    let a = above_is high low le in
    let k : above high low ≡ z = omega (arith, ints) in
    let one : v * 10 ^ above low low ≡ v = ap (λ (n : ℕ). v * 10 ^ n) (above_itself low) ∙ omega arith in
    order_at (record { neg = neg; m = m; e = high }) (record { neg = neg; m = v; e = low }) low le (omega (arith, ints))
    ∙ equal_int _ _ (ap (signed neg) (ap (λ (n : ℕ). m * 10 ^ n) k ∙ e ∙ sym one))

pub equal_through : (a b x : Number) → order_of a x ≡ Equal → order_of b x ≡ Equal → order_of a b ≡ Equal
equal_through a b x p q =
    let l : ℤ = int_min a.e (int_min b.e x.e) in
    let la : int_min a.e (int_min b.e x.e) ≤ℤ a.e = omega (arith, ints, clamps) in
    let lb : int_min a.e (int_min b.e x.e) ≤ℤ b.e = omega (arith, ints, clamps) in
    let lx : int_min a.e (int_min b.e x.e) ≤ℤ x.e = omega (arith, ints, clamps) in
    order_at a b l la lb ∙ equal_int (number_in l a) (number_in l b)
    (int_equal (number_in l a) (number_in l x) (sym (order_at a x l la lx) ∙ p)
    ∙ sym (int_equal (number_in l b) (number_in l x) (sym (order_at b x l lb lx) ∙ q)))

-- ---- the normal form of what was seen

exponent_is : (b : Bool) (w z p : ℕ) → exponent_of b w z p ≡ (signed b w -ℤ pos p) +ℤ pos z
exponent_is false w z p = omega (arith, ints)
exponent_is true w z p = omega (arith, ints)

abbrev stated : Bool → ℕ → ℕ → ℤ → Number
stated n v p e = record { neg = n; m = v; e = e -ℤ pos p }

normal_seen : (s : Seen) → IsTrimmed s.digits → IsNormal (normal s) × (order_of (normal s) (stated s.neg (worth s.digits) s.places (signed s.below s.power)) ≡ Equal)
normal_seen s t = go (eqb s.digits.m 0) (eqb-true s.digits.m 0) (λ e f. absurd (let h : eqb s.digits.m 0 ≡ true = eq-eqb s.digits.m 0 f in cc))
  where
    go : (b : Bool) → (b ≡ true → s.digits.m ≡ 0) → (b ≡ false → s.digits.m ≢ 0) →
        let n = cond {A = Number} b zero_number (record { neg = s.neg; m = s.digits.m; e = exponent s }) in
        IsNormal n × (order_of n (stated s.neg (worth s.digits) s.places (signed s.below s.power)) ≡ Equal)
    go true e f = (record { trimmed = λ h. refl }, zero_equal _ (ap (λ (k : ℕ). k * 10 ^ s.digits.zeros) (e refl) ∙ omega arith))
    go false e f = (record { trimmed = λ h. absurd (f refl (t h)) }, scaled_equal s.neg s.digits.m s.digits.zeros (worth s.digits) (exponent s) (signed s.below s.power -ℤ pos s.places) (exponent_is s.below s.power s.digits.zeros s.places) refl)

parts_stated : (s : Seen) (n : Bool) (ds : List ℕ) (p : ℕ) (e : ℤ) → AreDigits ds → HasParts s n (add_digits no_digits ds) p e → stated s.neg (worth s.digits) s.places (signed s.below s.power) ≡ stated n (digits_value 10 ds) p e
parts_stated s n ds p e all h =
    let v : worth s.digits ≡ digits_value 10 ds = ap worth h.digits_is ∙ worth_digits ds all no_digits in
    λ i. stated (h.neg_is i) (v i) (h.places_is i) (sym h.power_is i)

parts_normal : (s : Seen) (n : Bool) (ds : List ℕ) (p : ℕ) (e : ℤ) → AreDigits ds → HasParts s n (add_digits no_digits ds) p e → IsNormal (normal s) × (order_of (normal s) (stated n (digits_value 10 ds) p e) ≡ Equal)
parts_normal s n ds p e all h =
    let t : IsTrimmed s.digits = subst IsTrimmed (sym h.digits_is) (trimmed_digits ds all no_digits (λ k. refl)) in
    let r = normal_seen s t in
    (r.0, subst (λ (x : Number). order_of (normal s) x ≡ Equal) (parts_stated s n ds p e all h) r.1)

-- a text of which something was seen is the text of its normal form
pub seen_numeral : (text : List ℕ) (s : Seen) → seen_of text ≡ Some s → IsNumeral text (normal s)
unfolding seen_of
seen_numeral text s h =
    let shape = text_shape text s h in
    let body = shape.body in
    let b = body.behind in
    let r = parts_normal s shape.neg body.digits body.places b.e (mantissa_digits body.is_mantissa) b.parts in
    record {
      sign = shape.sign;
      neg = shape.neg;
      is_sign = shape.is_sign;
      mantissa = body.mantissa;
      digits = body.digits;
      places = body.places;
      is_mantissa = body.is_mantissa;
      power = body.rest;
      e = b.e;
      is_exponent = b.is_exponent;
      text_is = shape.is ∙ ap (λ (xs : List ℕ). shape.sign ++ xs) body.is;
      is_normal = r.0;
      is_value = r.1;
    }

-- and the text of a number is seen
pub numeral_seen : (text : List ℕ) (n : Number) → IsNumeral text n → (s : Seen) × (seen_of text ≡ Some s) × (n ≡ normal s)
unfolding seen_of
numeral_seen text n h =
    let run = numeral_run h.is_sign h.is_mantissa h.is_exponent in
    let r = parts_normal run.0 h.neg h.digits h.places h.e (mantissa_digits h.is_mantissa) run.2 in (
      run.0,
      ap (λ (xs : List ℕ). whole_seen (seen_from xs nothing_seen)) h.text_is ∙ run.1,
      normal_same n (normal run.0) h.is_normal r.0 (equal_through n (normal run.0) (stated h.neg (digits_value 10 h.digits) h.places h.e) h.is_value r.1),
    )

pub one_numeral : (text : List ℕ) (a b : Number) → IsNumeral text a → IsNumeral text b → a ≡ b
one_numeral text a b p q =
    let x = numeral_seen text a p in let y = numeral_seen text b q in
    let same : x.0 ≡ y.0 = (let e : Some x.0 ≡ Some y.0 = sym x.1 ∙ y.1 in cc) in
    x.2 ∙ ap normal same ∙ sym y.2

-- ---- the tests

pub narrow_from : (n : Number) → is_narrow n ≡ true → IsNarrow n
narrow_from n h = record { digits = grind (arith, nat_tests, ints, h); low = grind (arith, nat_tests, ints, h); high = grind (arith, nat_tests, ints, h) }

pub narrow_test : (n : Number) → IsNarrow n → is_narrow n ≡ true
narrow_test n h = grind (arith, nat_tests, ints, h.digits, h.low, h.high)

-- ---- what reading answers, in the grammar's words

pub reads : (text : List ℕ) (r : Result Number NumFault) → AnswersSeen (seen_of text) r → Reads text r
reads text r h = go (seen_of text) refl r h
  where
    go : (o : Option Seen) → seen_of text ≡ o → (r : Result Number NumFault) → AnswersSeen o r → Reads text r
    go None e (Ok d) h = absurd cc
    go None e (Err NumberTooWide) h = absurd cc
    go None e (Err NotANumber) h = λ n k. (let x = numeral_seen text n k in let f : None ≡ Some x.0 = sym e ∙ x.1 in absurd cc)
    go (Some s) e (Ok d) h = (subst (IsNumeral text) (sym h.0) (seen_numeral text s e), subst IsNarrow (sym h.0) (narrow_from (normal s) h.1))
    go (Some s) e (Err NumberTooWide) h = (normal s, seen_numeral text s e, λ k. (let t : is_narrow (normal s) ≡ true = narrow_test (normal s) k in absurd cc))
    go (Some s) e (Err NotANumber) h = absurd h

pub numeral_tests : (text : List ℕ) (n : Number) → IsNumeral text n → (is_number text ≡ true) × (number_of text ≡ n) × (is_wide text ≡ not (is_narrow n))
unfolding is_number number_of is_wide
numeral_tests text n h =
    let x = numeral_seen text n h in
    (rw x.1 refl, rw x.1 (sym x.2), rw x.1 (ap (λ (k : Number). not (is_narrow k)) (sym x.2)))

pub number_numeral : (text : List ℕ) → is_number text ≡ true → IsNumeral text (number_of text)
unfolding is_number number_of
number_numeral text h = go (seen_of text) refl h
  where
    go : (o : Option Seen) → seen_of text ≡ o → option_map_or (λ s. true) o false ≡ true → IsNumeral text (option_map_or normal o zero_number)
    go None e h = absurd cc
    go (Some s) e h = seen_numeral text s e

pub parts_number : (s m ds x : List ℕ) (neg : Bool) (p : ℕ) (e : ℤ) → Sign s neg → Mantissa m ds p → Exponent x e → is_number (s ++ (m ++ x)) ≡ true
unfolding is_number seen_of
parts_number s m ds x neg p e sign mantissa power =
    let run = numeral_run sign mantissa power in
    ap (λ (o : Option Seen). option_map_or (λ _. true) o false) run.1
