-- A number's literal is read as a decimal number, and is a text.
use Rattle.std.proofs.Common.{◌≡◌, ℕ, ◌+◌, ◌-◌, ◌*◌, ◌≤◌, ◌<◌, List, [], ◌∷◌, ◌++◌, true, false, eqb, leb, Option, Some, None, refl, sym, ap, subst, ◌∙◌, append_assoc, arith, ◌⊎◌, inl, inr, IsUtf8}
use Rattle.std.specs.Option.{option_map_or}
use Rattle.std.proofs.lemmas.Bool.{ne_eqb}
use Rattle.std.proofs.lemmas.Bool.Decides.{nat_tests}
use Rattle.std.proofs.lemmas.Str.{IsUtf8-nil, IsUtf8-append, IsUtf8-encode, encode_ascii}
use Rattle.sc_decimal.specs.declared.form.Form.{Form}
use Rattle.sc_decimal.specs.declared.form.Form.TheVariants as forms
use Rattle.sc_decimal.specs.Digits.{Seen, in_form, add_digit, whole_of, fraction_of, power_of, seen_in, seen_step, seen_from, seen_of, nothing_seen, whole_seen, ends_number}
use Rattle.sc_decimal.specs.Value.{is_number, number_of}
use Rattle.sc_json.specs.declared.tree.Json.TheVariants as trees
use Rattle.sc_json.specs.Machine.{number_json}
use Rattle.sc_json.specs.Characters.{is_digit_byte}
use Rattle.sc_json.specs.Grammar as grammar
use Rattle.sc_json.specs.Grammar.{AreDigits, Literal}
use Rattle.sc_json.proofs.Utf8.{scalar_in, text_is}

-- ---- the form that a number's bytes leave behind

record Arrives (o : Option Seen) (g : Form) : Type 0 where
  seen : Seen
  is : o ≡ Some seen
  form_is : seen.form ≡ g

record Sees (bs : List ℕ) (f g : Form) : Type 0 where
  go : (s : Seen) → s.form ≡ f → Arrives (seen_from bs s) g

nothing_sees : (f : Form) → Sees [] f f
unfolding seen_from
nothing_sees f = record { go = λ s e. record { seen = s; is = refl; form_is = e } }

byte_sees : (b : ℕ) (bs : List ℕ) (f g h : Form) → ((s : Seen) → Arrives (seen_in f s b) g) → Sees bs g h → Sees (b ∷ bs) f h
unfolding seen_from seen_step
byte_sees b bs f g h one more = record { go = λ s e. first s (subst (λ (x : Form). Arrives (seen_in x s b) g) (sym e) (one s)) }
  where
    first : (s : Seen) → Arrives (seen_in s.form s b) g → Arrives (option_map_or (seen_from bs) (seen_in s.form s b) None) h
    first s a = subst (λ (o : Option Seen). Arrives (option_map_or (seen_from bs) o None) h) (sym a.is) (more.go a.seen a.form_is)

seen_from-append : (a c : List ℕ) (s : Seen) → seen_from (a ++ c) s ≡ option_map_or (seen_from c) (seen_from a s) None
unfolding seen_from
seen_from-append [] c s = refl
seen_from-append (b ∷ a) c s = on (λ t. seen_from-append a c t) (seen_step s b)
  where
    on : ((t : Seen) → seen_from (a ++ c) t ≡ option_map_or (seen_from c) (seen_from a t) None) → (o : Option Seen) → option_map_or (seen_from (a ++ c)) o None ≡ option_map_or (seen_from c) (option_map_or (seen_from a) o None) None
    on later None = refl
    on later (Some t) = later t

then_sees : (a c : List ℕ) (f g h : Form) → Sees a f g → Sees c g h → Sees (a ++ c) f h
then_sees a c f g h x y = record { go = λ s e. both s (x.go s e) }
  where
    both : (s : Seen) → Arrives (seen_from a s) g → Arrives (seen_from (a ++ c) s) h
    both s r = subst (λ (o : Option Seen). Arrives o h) (sym (seen_from-append a c s)) (subst (λ (o : Option Seen). Arrives (option_map_or (seen_from c) o None) h) (sym r.is) (y.go r.seen r.form_is))

-- ---- one byte

record IsDigit (b : ℕ) : Type 0 where
  low : 48 ≤ b
  high : b ≤ 57

digit_is : (b : ℕ) → is_digit_byte b ≡ true → IsDigit b
digit_is b h = record { low = grind (arith, nat_tests); high = grind (arith, nat_tests) }

not_byte : (b c : ℕ) → IsDigit b → (c < 48) ⊎ (57 < c) → eqb b c ≡ false
not_byte b c d (inl lt) = let low = d.low in ne_eqb b c (λ e. absurd (omega arith))
not_byte b c d (inr gt) = let high = d.high in ne_eqb b c (λ e. absurd (omega arith))

whole_arrives : (b : ℕ) → is_digit_byte b ≡ true → (s : Seen) → Arrives (whole_of s b) forms.Whole
whole_arrives b h s = record { seen = record { form = forms.Whole; neg = s.neg; digits = add_digit s.digits (b - 48); places = s.places; below = s.below; power = s.power }; is = rw h refl; form_is = refl }

fraction_arrives : (b : ℕ) → is_digit_byte b ≡ true → (s : Seen) → Arrives (fraction_of s b) forms.Fraction
fraction_arrives b h s = record { seen = record { form = forms.Fraction; neg = s.neg; digits = add_digit s.digits (b - 48); places = s.places + 1; below = s.below; power = s.power }; is = rw h refl; form_is = refl }

power_arrives : (b : ℕ) → is_digit_byte b ≡ true → (s : Seen) → Arrives (power_of s b) forms.Power
power_arrives b h s = record { seen = record { form = forms.Power; neg = s.neg; digits = s.digits; places = s.places; below = s.below; power = s.power * 10 + (b - 48) }; is = rw h refl; form_is = refl }

start_digit : (b : ℕ) → is_digit_byte b ≡ true → (s : Seen) → Arrives (seen_in forms.Start s b) forms.Whole
start_digit b h s = let d = digit_is b h in rw (not_byte b 43 d (inl (omega arith)), not_byte b 45 d (inl (omega arith)), not_byte b 46 d (inl (omega arith))) (whole_arrives b h s)

signed_digit : (b : ℕ) → is_digit_byte b ≡ true → (s : Seen) → Arrives (seen_in forms.Signed s b) forms.Whole
signed_digit b h s = let d = digit_is b h in rw (not_byte b 46 d (inl (omega arith))) (whole_arrives b h s)

whole_digit : (b : ℕ) → is_digit_byte b ≡ true → (s : Seen) → Arrives (seen_in forms.Whole s b) forms.Whole
whole_digit b h s = let d = digit_is b h in rw (not_byte b 46 d (inl (omega arith)), not_byte b 101 d (inr (omega arith)), not_byte b 69 d (inr (omega arith))) (whole_arrives b h s)

fraction_digit : (b : ℕ) → is_digit_byte b ≡ true → (s : Seen) → Arrives (seen_in forms.Fraction s b) forms.Fraction
fraction_digit b h s = let d = digit_is b h in rw (not_byte b 101 d (inr (omega arith)), not_byte b 69 d (inr (omega arith))) (fraction_arrives b h s)

mark_digit : (b : ℕ) → is_digit_byte b ≡ true → (s : Seen) → Arrives (seen_in forms.Mark s b) forms.Power
mark_digit b h s = let d = digit_is b h in rw (not_byte b 43 d (inl (omega arith)), not_byte b 45 d (inl (omega arith))) (power_arrives b h s)

digits_see : (f : Form) → ((b : ℕ) → is_digit_byte b ≡ true → (s : Seen) → Arrives (seen_in f s b) f) → (ds : List ℕ) → AreDigits ds → Sees ds f f
digits_see f on [] all = nothing_sees f
digits_see f on (b ∷ ds) all = byte_sees b ds f f f (on b all.0) (digits_see f on ds all.1)

-- ---- the parts

from_bounds : (d : ℕ) → 49 ≤ d → d ≤ 57 → is_digit_byte d ≡ true
from_bounds d lo hi = let low : leb 48 d ≡ true = grind (arith, nat_tests) in let high : leb d 57 ≡ true = grind (arith, nat_tests) in rw (low, high) refl

whole_sees : (f : Form) → ((b : ℕ) → is_digit_byte b ≡ true → (s : Seen) → Arrives (seen_in f s b) forms.Whole) → {w : List ℕ} → grammar.Whole w → Sees w f forms.Whole
whole_sees f first grammar.zero_digit = byte_sees 48 [] f forms.Whole forms.Whole (first 48 refl) (nothing_sees forms.Whole)
whole_sees f first (grammar.digits d ds lo hi all) = byte_sees d ds f forms.Whole forms.Whole (first d (from_bounds d lo hi)) (digits_see forms.Whole whole_digit ds all)

integer_sees : {s w : List ℕ} → grammar.Minus s → grammar.Whole w → Sees (s ++ w) forms.Start forms.Whole
integer_sees grammar.positive w = whole_sees forms.Start start_digit w
integer_sees grammar.negative w = byte_sees 45 _ forms.Start forms.Signed forms.Whole (λ s. record { seen = _; is = refl; form_is = refl }) (whole_sees forms.Signed signed_digit w)

record Tail (bs : List ℕ) (f : Form) : Type 0 where
  form : Form
  sees : Sees bs f form
  ends : ends_number form ≡ true

signed_sees : {s : List ℕ} → grammar.Sign s → (d : ℕ) (ds : List ℕ) → is_digit_byte d ≡ true → AreDigits ds → Sees (s ++ d ∷ ds) forms.Mark forms.Power
signed_sees grammar.no_sign d ds one all = byte_sees d ds forms.Mark forms.Power forms.Power (mark_digit d one) (digits_see forms.Power power_arrives ds all)
signed_sees grammar.plus d ds one all = byte_sees 43 (d ∷ ds) forms.Mark forms.MarkSigned forms.Power (λ s. record { seen = _; is = refl; form_is = refl }) (byte_sees d ds forms.MarkSigned forms.Power forms.Power (power_arrives d one) (digits_see forms.Power power_arrives ds all))
signed_sees grammar.minus d ds one all = byte_sees 45 (d ∷ ds) forms.Mark forms.MarkSigned forms.Power (λ s. record { seen = _; is = refl; form_is = refl }) (byte_sees d ds forms.MarkSigned forms.Power forms.Power (power_arrives d one) (digits_see forms.Power power_arrives ds all))

abbrev TakesMark : Form → Type 0
TakesMark f = (f ≡ forms.Whole) ⊎ (f ≡ forms.Fraction)

mark_sees : (f : Form) → TakesMark f → (mark : ℕ) → (mark ≡ 101) ⊎ (mark ≡ 69) → (s : Seen) → Arrives (seen_in f s mark) forms.Mark
mark_sees f (inl e) mark (inl m) s = rw (e, m) (record { seen = in_form s forms.Mark; is = refl; form_is = refl })
mark_sees f (inl e) mark (inr m) s = rw (e, m) (record { seen = in_form s forms.Mark; is = refl; form_is = refl })
mark_sees f (inr e) mark (inl m) s = rw (e, m) (record { seen = in_form s forms.Mark; is = refl; form_is = refl })
mark_sees f (inr e) mark (inr m) s = rw (e, m) (record { seen = in_form s forms.Mark; is = refl; form_is = refl })

power_sees : (f : Form) → TakesMark f → {p : List ℕ} → grammar.Power p → Tail p f
power_sees f takes grammar.no_power = record { form = f; sees = nothing_sees f; ends = elim takes [ inl e ↦ rw e refl | inr e ↦ rw e refl ] }
power_sees f takes (grammar.power mark s ds d m sg one all) = record { form = forms.Power; sees = byte_sees mark (s ++ d ∷ ds) f forms.Mark forms.Power (mark_sees f takes mark m) (signed_sees sg d ds one all); ends = refl }

fraction_power : {f p : List ℕ} → grammar.Fraction f → grammar.Power p → Tail (f ++ p) forms.Whole
fraction_power grammar.no_fraction pw = power_sees forms.Whole (inl refl) pw
fraction_power {f} {p} (grammar.fraction d ds one all) pw =
    let t = power_sees forms.Fraction (inr refl) pw in
    record {
      form = t.form;
      sees = byte_sees 46 ((d ∷ ds) ++ p) forms.Whole forms.Point t.form (λ s. record { seen = _; is = refl; form_is = refl })
          (byte_sees d (ds ++ p) forms.Point forms.Fraction t.form (fraction_arrives d one)
          (then_sees ds p forms.Fraction forms.Fraction t.form (digits_see forms.Fraction fraction_digit ds all) t.sees));
      ends = t.ends;
    }

number_seen : (o : Option Seen) (g : Form) → ends_number g ≡ true → Arrives o g → option_map_or (λ (s : Seen). true) (whole_seen o) false ≡ true
number_seen o g ends a =
    subst (λ (x : Option Seen). option_map_or (λ (s : Seen). true) (whole_seen x) false ≡ true) (sym a.is)
    (let ends : ends_number a.seen.form ≡ true = ap ends_number a.form_is ∙ ends in rw ends refl)

pub literal_number : (ds : List ℕ) → Literal ds → is_number ds ≡ true
unfolding is_number seen_of
literal_number _ (grammar.literal s w f p sg wh fr pw) =
    let t = fraction_power fr pw in
    let sees : Sees ((s ++ w) ++ (f ++ p)) forms.Start t.form = then_sees (s ++ w) (f ++ p) forms.Start forms.Whole t.form (integer_sees sg wh) t.sees in
    number_seen (seen_from (s ++ w ++ f ++ p) nothing_seen) t.form t.ends ((subst (λ (x : List ℕ). Sees x forms.Start t.form) (simp append_assoc) sees).go nothing_seen refl)

-- ---- a literal is ASCII

abbrev pub AreAscii : List ℕ → Type 0
AreAscii [] = Unit {0}
AreAscii (b ∷ bs) = (b < 128) × AreAscii bs

pub ascii_append : (a c : List ℕ) → AreAscii a → AreAscii c → AreAscii (a ++ c)
ascii_append [] c x y = y
ascii_append (b ∷ a) c x y = (x.0, ascii_append a c x.1 y)

pub ascii_utf8 : (bs : List ℕ) → AreAscii bs → IsUtf8 bs
ascii_utf8 [] all = IsUtf8-nil
ascii_utf8 (b ∷ bs) all =
    let small : b < 128 = all.0 in
    IsUtf8-append (b ∷ []) bs (subst IsUtf8 (encode_ascii b small) (IsUtf8-encode b (scalar_in b (inl (omega arith))))) (ascii_utf8 bs all.1)

ascii_digits : (ds : List ℕ) → AreDigits ds → AreAscii ds
ascii_digits [] all = tt
ascii_digits (d ∷ ds) all = let h = digit_is d all.0 in let high = h.high in (omega arith, ascii_digits ds all.1)

ascii_minus : {s : List ℕ} → grammar.Minus s → AreAscii s
ascii_minus grammar.positive = tt
ascii_minus grammar.negative = (omega arith, tt)

ascii_whole : {w : List ℕ} → grammar.Whole w → AreAscii w
ascii_whole grammar.zero_digit = (omega arith, tt)
ascii_whole (grammar.digits d ds lo hi all) = (omega arith, ascii_digits ds all)

ascii_fraction : {f : List ℕ} → grammar.Fraction f → AreAscii f
ascii_fraction grammar.no_fraction = tt
ascii_fraction (grammar.fraction d ds one all) = (omega arith, ascii_digits (d ∷ ds) (one, all))

ascii_sign : {s : List ℕ} → grammar.Sign s → AreAscii s
ascii_sign grammar.no_sign = tt
ascii_sign grammar.plus = (omega arith, tt)
ascii_sign grammar.minus = (omega arith, tt)

ascii_power : {p : List ℕ} → grammar.Power p → AreAscii p
ascii_power grammar.no_power = tt
ascii_power (grammar.power mark s ds d m sg one all) = (elim m [ inl e ↦ omega arith | inr e ↦ omega arith ], ascii_append s (d ∷ ds) (ascii_sign sg) (ascii_digits (d ∷ ds) (one, all)))

pub literal_utf8 : (ds : List ℕ) → Literal ds → IsUtf8 ds
literal_utf8 _ (grammar.literal s w f p sg wh fr pw) = ascii_utf8 (s ++ w ++ f ++ p) (ascii_append (s ++ w ++ f) p (ascii_append (s ++ w) f (ascii_append s w (ascii_minus sg) (ascii_whole wh)) (ascii_fraction fr)) (ascii_power pw))

-- the tree of a number's literal
pub literal_json : (ds : List ℕ) → Literal ds → number_json ds ≡ Some (trees.Number (record { literal = ds; dec = number_of ds }))
literal_json ds l = let n = literal_number ds l in let t = text_is ds (literal_utf8 ds l) in rw (n, t) refl
