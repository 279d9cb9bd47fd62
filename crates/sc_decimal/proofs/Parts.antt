-- What is seen of a number's text, by its parts.
use Rattle.std.proofs.Common.{◌≡◌, ℕ, ◌+◌, ◌-◌, ◌*◌, ◌≤◌, List, [], ◌∷◌, ◌++◌, length, refl, sym, ap, subst, ◌∙◌, ◌⊎◌, inl, inr, arith, ℤ, Bool, true, false, Option, Some, None}
use Rattle.std.proofs.lemmas.Bool.{ne_eqb, lt-ltb, le-ltb}
use Rattle.std.proofs.lemmas.Bool.Decides.{nat_tests}
use Rattle.std.specs.Option.{option_map_or}
use Rattle.std.specs.Char.{digit_value}
use Rattle.std.specs.Str.Parse.{digits_value, digits_value_after}
use Rattle.sc_decimal.specs.declared.form.Form.{Form}
use Rattle.sc_decimal.specs.declared.form.Form.TheVariants.{Start, Signed, Whole, Point, Fraction, Mark, MarkSigned, Power}
use Rattle.sc_decimal.specs.Number.{signed}
use Rattle.sc_decimal.specs.Digits.{Digits, Seen, add_digit, is_digit, seen_step, seen_from, nothing_seen, whole_seen}
use Rattle.sc_decimal.specs.Numeral.{AreDigits, IsRow, Sign, no_sign, plus, minus, Mantissa, Exponent, no_exponent, exponent}
use Rattle.sc_decimal.specs.Numeral as numerals

abbrev pub seen : Form → Bool → Digits → ℕ → Bool → ℕ → Seen
seen f n g p x w = record { form = f; neg = n; digits = g; places = p; below = x; power = w }

abbrev pub no_digits : Digits
no_digits = record { m = 0; zeros = 0 }

abbrev pub add_digits : Digits → List ℕ → Digits
add_digits g [] = g
add_digits g (c ∷ cs) = add_digits (add_digit g (c - 48)) cs

pub add_digits-append : (g : Digits) (xs ys : List ℕ) → add_digits g (xs ++ ys) ≡ add_digits (add_digits g xs) ys
add_digits-append g [] ys = refl
add_digits-append g (x ∷ xs) ys = add_digits-append (add_digit g (x - 48)) xs ys

pub digit_range : (c : ℕ) → is_digit c ≡ true → (48 ≤ c) × (c ≤ 57)
digit_range c h = (grind (arith, nat_tests), grind (arith, nat_tests))

pub digit_value_is : (c : ℕ) → is_digit c ≡ true → digit_value c ≡ c - 48
digit_value_is c h =
    let r = digit_range c h in
    rw (le-ltb c 48 r.0, lt-ltb c 58 (omega arith)) refl

-- ---- from the parts to what is seen

pub goes_on : (xs ys : List ℕ) (s t : Seen) → seen_from xs s ≡ Some t → seen_from (xs ++ ys) s ≡ seen_from ys t
unfolding seen_from
goes_on [] ys s t h = let e : s ≡ t = cc in ap (seen_from ys) e
goes_on (x ∷ xs) ys s t h = go (λ u. goes_on xs ys u t) (seen_step s x) h
  where
    go : ((u : Seen) → seen_from xs u ≡ Some t → seen_from (xs ++ ys) u ≡ seen_from ys t) → (o : Option Seen) → option_map_or (seen_from xs) o None ≡ Some t → option_map_or (seen_from (xs ++ ys)) o None ≡ seen_from ys t
    go k None h = absurd cc
    go k (Some u) h = k u h

-- the forms in which the first digit may come
abbrev pub IsBegun : Form → Type 0
IsBegun Start = Unit {0}
IsBegun Signed = Unit {0}
IsBegun Whole = Unit {0}
IsBegun _ = ⊥

digit_step : (f : Form) → IsBegun f → (n : Bool) (g : Digits) (p : ℕ) (x : Bool) (w c : ℕ) → is_digit c ≡ true → seen_step (seen f n g p x w) c ≡ Some (seen Whole n (add_digit g (c - 48)) p x w)
unfolding seen_step
digit_step Start b n g p x w c h =
    let r = digit_range c h in
    rw (ne_eqb c 43 (λ e. omega arith), ne_eqb c 45 (λ e. omega arith), ne_eqb c 46 (λ e. omega arith), h) refl
digit_step Signed b n g p x w c h = let r = digit_range c h in rw (ne_eqb c 46 (λ e. omega arith), h) refl
digit_step Whole b n g p x w c h =
    let r = digit_range c h in
    rw (ne_eqb c 46 (λ e. omega arith), ne_eqb c 101 (λ e. omega arith), ne_eqb c 69 (λ e. omega arith), h) refl
digit_step Point b n g p x w c h = absurd b
digit_step Fraction b n g p x w c h = absurd b
digit_step Mark b n g p x w c h = absurd b
digit_step MarkSigned b n g p x w c h = absurd b
digit_step Power b n g p x w c h = absurd b

whole_run : (ds : List ℕ) → AreDigits ds → (n : Bool) (g : Digits) (p : ℕ) (x : Bool) (w : ℕ) → seen_from ds (seen Whole n g p x w) ≡ Some (seen Whole n (add_digits g ds) p x w)
unfolding seen_from
whole_run [] h n g p x w = refl
whole_run (c ∷ cs) h n g p x w = rw (digit_step Whole tt n g p x w c h.0) (whole_run cs h.1 n (add_digit g (c - 48)) p x w)

pub row_run : (f : Form) → IsBegun f → (ds : List ℕ) → IsRow ds → (n : Bool) (g : Digits) (p : ℕ) (x : Bool) (w : ℕ) → seen_from ds (seen f n g p x w) ≡ Some (seen Whole n (add_digits g ds) p x w)
unfolding seen_from
row_run f b [] h n g p x w = absurd h
row_run f b (c ∷ cs) h n g p x w = rw (digit_step f b n g p x w c h.0) (whole_run cs h.1 n (add_digit g (c - 48)) p x w)

fraction_run : (ds : List ℕ) → AreDigits ds → (n : Bool) (g : Digits) (p : ℕ) (x : Bool) (w : ℕ) → seen_from ds (seen Fraction n g p x w) ≡ Some (seen Fraction n (add_digits g ds) (p + length ds) x w)
unfolding seen_from seen_step
fraction_run [] h n g p x w = ap (λ (k : ℕ). Some (seen Fraction n g k x w)) (omega arith)
fraction_run (c ∷ cs) h n g p x w =
    let r = digit_range c h.0 in
    let e : p + 1 + length cs ≡ p + length (c ∷ cs) = omega arith in
    rw (ne_eqb c 101 (λ e. omega arith), ne_eqb c 69 (λ e. omega arith), h.0) (fraction_run cs h.1 n (add_digit g (c - 48)) (p + 1) x w ∙ ap (λ (k : ℕ). Some (seen Fraction n (add_digits g (c ∷ cs)) k x w)) e)

pub point_run : (ds : List ℕ) → IsRow ds → (n : Bool) (g : Digits) (p : ℕ) (x : Bool) (w : ℕ) → seen_from ds (seen Point n g p x w) ≡ Some (seen Fraction n (add_digits g ds) (p + length ds) x w)
unfolding seen_from seen_step
point_run [] h n g p x w = absurd h
point_run (c ∷ cs) h n g p x w =
    let e : p + 1 + length cs ≡ p + length (c ∷ cs) = omega arith in
    rw h.0 (fraction_run cs h.1 n (add_digit g (c - 48)) (p + 1) x w ∙ ap (λ (k : ℕ). Some (seen Fraction n (add_digits g (c ∷ cs)) k x w)) e)

power_run : (ds : List ℕ) → AreDigits ds → (n : Bool) (g : Digits) (p : ℕ) (x : Bool) (w : ℕ) → seen_from ds (seen Power n g p x w) ≡ Some (seen Power n g p x (digits_value_after 10 w ds))
unfolding seen_from seen_step
power_run [] h n g p x w = refl
power_run (c ∷ cs) h n g p x w =
    rw h.0 (power_run cs h.1 n g p x (w * 10 + (c - 48)) ∙ ap (λ (k : ℕ). Some (seen Power n g p x (digits_value_after 10 (w * 10 + k) cs))) (sym (digit_value_is c h.0)))

first_power : (c : ℕ) (cs : List ℕ) → is_digit c ≡ true → AreDigits cs → (n : Bool) (g : Digits) (p : ℕ) (x : Bool) → seen_from cs (seen Power n g p x (0 * 10 + (c - 48))) ≡ Some (seen Power n g p x (digits_value 10 (c ∷ cs)))
first_power c cs h hs n g p x =
    power_run cs hs n g p x (0 * 10 + (c - 48)) ∙ ap (λ (k : ℕ). Some (seen Power n g p x (digits_value_after 10 (0 * 10 + k) cs))) (sym (digit_value_is c h))

mark_run : (ds : List ℕ) → IsRow ds → (n : Bool) (g : Digits) (p : ℕ) → seen_from ds (seen Mark n g p false 0) ≡ Some (seen Power n g p false (digits_value 10 ds))
unfolding seen_from seen_step
mark_run [] h n g p = absurd h
mark_run (c ∷ cs) h n g p =
    let r = digit_range c h.0 in
    rw (ne_eqb c 43 (λ e. omega arith), ne_eqb c 45 (λ e. omega arith), h.0) (first_power c cs h.0 h.1 n g p false)

mark_signed_run : (ds : List ℕ) → IsRow ds → (n : Bool) (g : Digits) (p : ℕ) (x : Bool) → seen_from ds (seen MarkSigned n g p x 0) ≡ Some (seen Power n g p x (digits_value 10 ds))
unfolding seen_from seen_step
mark_signed_run [] h n g p x = absurd h
mark_signed_run (c ∷ cs) h n g p x = rw h.0 (first_power c cs h.0 h.1 n g p x)

signed_power_run : {s : List ℕ} {neg : Bool} → Sign s neg → (ds : List ℕ) → IsRow ds → (n : Bool) (g : Digits) (p : ℕ) → seen_from (s ++ ds) (seen Mark n g p false 0) ≡ Some (seen Power n g p neg (digits_value 10 ds))
unfolding seen_from seen_step
signed_power_run no_sign ds h n g p = mark_run ds h n g p
signed_power_run plus ds h n g p = mark_signed_run ds h n g p false
signed_power_run minus ds h n g p = mark_signed_run ds h n g p true

-- the forms in which a mantissa may end
abbrev pub EndsMantissa : Form → Type 0
EndsMantissa Whole = Unit {0}
EndsMantissa Fraction = Unit {0}
EndsMantissa _ = ⊥

-- what was seen has these parts
pub record HasParts (t : Seen) (n : Bool) (g : Digits) (p : ℕ) (e : ℤ) : Type 0 where
  pub neg_is : t.neg ≡ n
  pub digits_is : t.digits ≡ g
  pub places_is : t.places ≡ p
  pub power_is : e ≡ signed t.below t.power

marked : (f : Form) → EndsMantissa f → (mark : ℕ) → (mark ≡ 101) ⊎ (mark ≡ 69) → (bs : List ℕ) (n : Bool) (g : Digits) (p : ℕ) → seen_from (mark ∷ bs) (seen f n g p false 0) ≡ seen_from bs (seen Mark n g p false 0)
unfolding seen_from seen_step
marked Whole h mark (inl e) bs n g p = rw e refl
marked Whole h mark (inr e) bs n g p = rw e refl
marked Fraction h mark (inl e) bs n g p = rw e refl
marked Fraction h mark (inr e) bs n g p = rw e refl
marked Start h mark i bs n g p = absurd h
marked Signed h mark i bs n g p = absurd h
marked Point h mark i bs n g p = absurd h
marked Mark h mark i bs n g p = absurd h
marked MarkSigned h mark i bs n g p = absurd h
marked Power h mark i bs n g p = absurd h

ends_whole : (f : Form) → EndsMantissa f → (n : Bool) (g : Digits) (p : ℕ) → whole_seen (Some (seen f n g p false 0)) ≡ Some (seen f n g p false 0)
ends_whole Whole h n g p = refl
ends_whole Fraction h n g p = refl
ends_whole Start h n g p = absurd h
ends_whole Signed h n g p = absurd h
ends_whole Point h n g p = absurd h
ends_whole Mark h n g p = absurd h
ends_whole MarkSigned h n g p = absurd h
ends_whole Power h n g p = absurd h

pub exponent_run : {x : List ℕ} {e : ℤ} → Exponent x e → (f : Form) → EndsMantissa f → (n : Bool) (g : Digits) (p : ℕ) → (t : Seen) × (whole_seen (seen_from x (seen f n g p false 0)) ≡ Some t) × HasParts t n g p e
unfolding seen_from
exponent_run no_exponent f h n g p = (seen f n g p false 0, ends_whole f h n g p, record { neg_is = refl; digits_is = refl; places_is = refl; power_is = refl })
exponent_run (exponent mark s ds neg is sign row) f h n g p = (
  seen Power n g p neg (digits_value 10 ds),
  ap whole_seen (marked f h mark is (s ++ ds) n g p ∙ signed_power_run sign ds row n g p),
  record { neg_is = refl; digits_is = refl; places_is = refl; power_is = refl },
)

begun : (f : Form) → (f ≡ Start) ⊎ (f ≡ Signed) → IsBegun f
begun f (inl e) = subst IsBegun (sym e) tt
begun f (inr e) = subst IsBegun (sym e) tt

pointed : (f : Form) → ((f ≡ Start) ⊎ (f ≡ Signed)) ⊎ (f ≡ Whole) → (fs : List ℕ) (n : Bool) (g : Digits) → seen_from (46 ∷ fs) (seen f n g 0 false 0) ≡ seen_from fs (seen Point n g 0 false 0)
unfolding seen_from seen_step
pointed f (inl (inl e)) fs n g = rw e refl
pointed f (inl (inr e)) fs n g = rw e refl
pointed f (inr e) fs n g = rw e refl

both : (fs : List ℕ) (n : Bool) {g h : Digits} → g ≡ h → Some (seen Fraction n g (0 + length fs) false 0) ≡ Some (seen Fraction n h (length fs) false 0)
both fs n {g} {h} e = ap (λ (d : Digits). Some (seen Fraction n d (0 + length fs) false 0)) e ∙ ap (λ (k : ℕ). Some (seen Fraction n h k false 0)) (omega arith)

pub mantissa_run : {m ds : List ℕ} {p : ℕ} → Mantissa m ds p → (f : Form) → (f ≡ Start) ⊎ (f ≡ Signed) → (n : Bool) → (t : Form) × EndsMantissa t × (seen_from m (seen f n no_digits 0 false 0) ≡ Some (seen t n (add_digits no_digits ds) p false 0))
mantissa_run (numerals.whole ds row) f i n = (Whole, tt, row_run f (begun f i) ds row n no_digits 0 false 0)
mantissa_run (numerals.mixed ds fs row part) f i n = (
  Fraction,
  tt,
  goes_on ds (46 ∷ fs) _ _ (row_run f (begun f i) ds row n no_digits 0 false 0)
      ∙ pointed Whole (inr refl) fs n (add_digits no_digits ds)
      ∙ point_run fs part n (add_digits no_digits ds) 0 false 0
      ∙ both fs n (sym (add_digits-append no_digits ds fs)),
)
mantissa_run (numerals.fraction fs part) f i n =
    (Fraction, tt, pointed f (inl i) fs n no_digits ∙ point_run fs part n no_digits 0 false 0 ∙ both fs n refl)

behind_sign : {m ds x : List ℕ} {p : ℕ} {e : ℤ} → Mantissa m ds p → Exponent x e → (f : Form) → (f ≡ Start) ⊎ (f ≡ Signed) → (n : Bool) → (t : Seen) × (whole_seen (seen_from (m ++ x) (seen f n no_digits 0 false 0)) ≡ Some t) × HasParts t n (add_digits no_digits ds) p e
behind_sign {m} {ds} {x} {p} {e} mantissa power f i n =
    let r = mantissa_run mantissa f i n in
    let q = exponent_run power r.0 r.1 n (add_digits no_digits ds) p in
    (q.0, ap whole_seen (goes_on m x (seen f n no_digits 0 false 0) (seen r.0 n (add_digits no_digits ds) p false 0) r.2) ∙ q.1, q.2)

pub numeral_run : {s m ds x : List ℕ} {neg : Bool} {p : ℕ} {e : ℤ} → Sign s neg → Mantissa m ds p → Exponent x e → (t : Seen) × (whole_seen (seen_from (s ++ (m ++ x)) nothing_seen) ≡ Some t) × HasParts t neg (add_digits no_digits ds) p e
unfolding seen_from seen_step
numeral_run no_sign mantissa power = behind_sign mantissa power Start (inl refl) false
numeral_run plus mantissa power = behind_sign mantissa power Signed (inr refl) false
numeral_run minus mantissa power = behind_sign mantissa power Signed (inr refl) true
