-- What a token is read as keeps what its type does: names and texts are UTF-8, numbers stand in their one form, moments and
-- boxes lie within their ranges.
use Rattle.std.proofs.Common.{rules, ◌≡◌, ℕ, ℤ, pos, neg_ℤ, ◌+◌, ◌-◌, ◌*◌, ◌<◌, ◌≤ℤ◌, ◌<ℤ◌, List, [], ◌∷◌, Bool, true, false, ◌&&◌, not, cond, Option, Some, None, Result, Ok, Err, refl, sym, ◌∙◌, arith, int_le, int_lt, IsUtf8}
use Rattle.std.specs.Option.{IfSome}
use Rattle.std.specs.Char.{is_ascii_digit}
use Rattle.std.specs.Str.{is_utf8}
use Rattle.std.proofs.lemmas.Bool.{and_parts}
use Rattle.std.proofs.lemmas.Bool.Decides.{nat_tests}
use Rattle.std.proofs.lemmas.Str.{IsUtf8-from_is_utf8}
use Rattle.jiff_core.proofs.SignedLemmas.{signed_arith}
use Rattle.jiff_core.proofs.CalendarLemmas.{day_count_bounds, days_from_civil-day_count}
use Rattle.jiff_core.specs.Calendar as jiff
use Rattle.sc_base.specs.Text as texts
use Rattle.sc_decimal.specs.Number.{IsDec}
use Rattle.sc_decimal.specs.Value.{is_number, is_wide, is_narrow, number_of}
use Rattle.sc_decimal.proofs.Numerals.{number_numeral, numeral_tests, narrow_from}
use Rattle.sc_time.specs.declared.form.DateFields.{DateFields}
use Rattle.sc_time.specs.declared.form.DateTimeFields.{DateTimeFields}
use Rattle.sc_time.specs.declared.fault.TimeFault.{TimeFault}
use Rattle.sc_time.specs.declared.fault.TimeFault.TheVariants.{BadDate, OutOfRange}
use Rattle.sc_time.specs.Calendar.{IsDate, day_number}
use Rattle.sc_time.specs.Instant.{IsInstant, is_instant, IsDayNumber, midnight}
use Rattle.sc_time.specs.Form.{followed_by, at_end, two_digits, two_digits_behind, four_digits, full_date, date_form, date_time_form}
use Rattle.sc_time.specs.Reading.{is_calendar_date, is_date_time, day_of_fields, nanoseconds_of, instant_of_form, instant_reading, instant_of_date, date_reading}
use Rattle.sc_time.proofs.Calendars.{IsDate-from_test, day_number-days_from_civil, day_number-first, days_of_month_same}
use Rattle.sc_grammar.specs.declared.token.Class.{Class}
use Rattle.sc_cqlvalue.specs.Literals.{text_bytes, text_of, name_bytes, if_filled, name_of, dec_of, if_read, instant_of, day_of}

-- ---- names and texts

utf8_text : (bytes : List ℕ) → IfSome (texts.text_of bytes) IsUtf8
utf8_text bytes = by_test (is_utf8 bytes) refl
  where
    by_test : (b : Bool) → is_utf8 bytes ≡ b → IfSome (cond b (Some bytes) None) IsUtf8
    by_test true e = IsUtf8-from_is_utf8 bytes e
    by_test false e = tt

filled_utf8 : (text : Option (List ℕ)) → IfSome text IsUtf8 → IfSome (if_filled text) IsUtf8
filled_utf8 None u = tt
filled_utf8 (Some []) u = tt
filled_utf8 (Some (b ∷ bytes)) u = u

pub name_utf8 : (class : Class) (bytes : List ℕ) → IfSome (name_of class bytes) IsUtf8
name_utf8 class bytes = filled_utf8 (texts.text_of (name_bytes class bytes)) (utf8_text (name_bytes class bytes))

pub text_utf8 : (bytes : List ℕ) → IfSome (text_of bytes) IsUtf8
text_utf8 bytes = utf8_text (text_bytes bytes)

-- ---- numbers

not_true : (b : Bool) → not b ≡ true → b ≡ false
not_true true e = absurd cc
not_true false e = refl

not_false : (b : Bool) → not b ≡ false → b ≡ true
not_false true e = refl
not_false false e = absurd cc

pub number_dec : (bytes : List ℕ) → IfSome (dec_of bytes) IsDec
number_dec bytes = by_test (is_number bytes && not (is_wide bytes)) refl
  where
    by_test : (b : Bool) → (is_number bytes && not (is_wide bytes)) ≡ b → IfSome (cond b (Some (number_of bytes)) None) IsDec
    by_test true e =
        let both = and_parts (is_number bytes) (not (is_wide bytes)) e in
        let numeral = number_numeral bytes both.0 in
        let tests = numeral_tests bytes (number_of bytes) numeral in
        record {
          normal = numeral.is_normal;
          narrow = narrow_from (number_of bytes) (not_false (is_narrow (number_of bytes)) (sym tests.2 ∙ not_true (is_wide bytes) both.1));
        }
    by_test false e = tt

-- ---- instants

tested_le : (a b : ℤ) → int_le a b ≡ true → a ≤ℤ b
tested_le a b e = search rules

tested_lt : (a b : ℤ) → int_lt a b ≡ true → a <ℤ b
tested_lt a b e = search rules

abbrev IsRead : Result ℤ TimeFault → Type 0
IsRead r = IfSome (if_read r) IsInstant

form_instant : (form : Option DateTimeFields) → IsRead (instant_of_form form)
form_instant None = tt
form_instant (Some form) = by_tests (is_date_time form) (is_instant (nanoseconds_of form)) refl
  where
    by_tests : (a b : Bool) → is_instant (nanoseconds_of form) ≡ b → IsRead (cond a (cond b (Ok (nanoseconds_of form)) (Err OutOfRange)) (Err BadDate))
    by_tests false b e = tt
    by_tests true false e = tt
    by_tests true true e =
        let both = and_parts (int_le (neg_ℤ (pos 62_167_219_200_000_000_000)) (nanoseconds_of form)) (int_lt (nanoseconds_of form) (pos 253_402_300_800_000_000_000)) e in
        (tested_le (neg_ℤ (pos 62_167_219_200_000_000_000)) (nanoseconds_of form) both.0, tested_lt (nanoseconds_of form) (pos 253_402_300_800_000_000_000) both.1)

pub instant_kept : (bytes : List ℕ) → IfSome (instant_of bytes) IsInstant
unfolding instant_reading
instant_kept bytes = form_instant (date_time_form (text_bytes bytes))

-- ---- days: a date has four digits of a year

abbrev Fronts : {A : Type 0} → (A → Type 0) → Option (A × List ℕ) → Type 0
Fronts P front = IfSome front (λ f. P f.0)

followed : {A B : Type 0} (P : A → Type 0) (Q : B → Type 0) (front : Option (A × List ℕ)) (next : A → List ℕ → Option B) → Fronts P front → ((a : A) (rest : List ℕ) → P a → IfSome (next a rest) Q) → IfSome (followed_by front next) Q
followed P Q None next h k = tt
followed P Q (Some front) next h k = k front.0 front.1 h

some_front : {A : Type 0} (front : Option (A × List ℕ)) → Fronts (λ (a : A). Unit {0}) front
some_front None = tt
some_front (Some front) = tt

two_within : (text : List ℕ) → Fronts (λ n. n < 100) (two_digits text)
two_within [] = tt
two_within (tens ∷ []) = tt
two_within (tens ∷ ones ∷ rest) = by_test (is_ascii_digit tens && is_ascii_digit ones) refl
  where
    by_test : (b : Bool) → (is_ascii_digit tens && is_ascii_digit ones) ≡ b → Fronts (λ n. n < 100) (cond b (Some ((tens - 48) * 10 + (ones - 48), rest)) None)
    by_test false e = tt
    by_test true e =
        let both = and_parts (is_ascii_digit tens) (is_ascii_digit ones) e in
        let first : is_ascii_digit tens ≡ true = both.0 in
        let second : is_ascii_digit ones ≡ true = both.1 in
        grind (arith, nat_tests)

four_within : (text : List ℕ) → Fronts (λ n. n < 10000) (four_digits text)
four_within text =
    followed (λ n. n < 100) (λ (f : ℕ × List ℕ). f.0 < 10000) (two_digits text) _ (two_within text) (λ high rest h.
    followed (λ n. n < 100) (λ (f : ℕ × List ℕ). f.0 < 10000) (two_digits rest) _ (two_within rest) (λ low rest k. omega (arith, h, k)))

full_within : (text : List ℕ) → Fronts (λ (date : DateFields). date.year < 10000) (full_date text)
unfolding full_date
full_within text =
    let Q : DateFields × List ℕ → Type 0 = λ f. f.0.year < 10000 in
    followed (λ n. n < 10000) Q (four_digits text) _ (four_within text) (λ year rest h.
    followed (λ (n : ℕ). Unit {0}) Q (two_digits_behind 45 rest) _ (some_front (two_digits_behind 45 rest)) (λ month rest k.
    followed (λ (n : ℕ). Unit {0}) Q (two_digits_behind 45 rest) _ (some_front (two_digits_behind 45 rest)) (λ day rest l. h)))

ends_within : (date : DateFields) (rest : List ℕ) → date.year < 10000 → IfSome (at_end date rest) (λ d. d.year < 10000)
ends_within date [] h = h
ends_within date (b ∷ rest) h = tt

date_within : (text : List ℕ) → IfSome (date_form text) (λ date. date.year < 10000)
unfolding date_form
date_within text = followed (λ (date : DateFields). date.year < 10000) (λ (date : DateFields). date.year < 10000) (full_date text) at_end (full_within text) ends_within

number_within : (year month day : ℕ) → IsDate year month day → year < 10000 → IsDayNumber (day_number year month day)
number_within year month day (months, days) within =
    let civil : jiff.IsCivilDate (pos year) month day = ((omega (arith, signed_arith)), months, rw (← days_of_month_same year month) days) in
    let bounds = day_count_bounds (pos year) month day civil in
    let is = day_number-days_from_civil year month day days.0 in
    let counted = days_from_civil-day_count (pos year) month day in
    (day_number-first year month day, rw is (omega (arith, signed_arith, bounds.1, counted)))

midnight_kept : (day : ℤ) → IsDayNumber day → IsInstant (midnight day)
midnight_kept day (low, high) = (omega (arith, signed_arith, low), omega (arith, signed_arith, high))

date_kept : (date : Option DateFields) → IfSome date (λ d. d.year < 10000) → IsRead (instant_of_date date)
date_kept None within = tt
date_kept (Some date) within = by_test (is_calendar_date date) refl
  where
    by_test : (b : Bool) → is_calendar_date date ≡ b → IsRead (cond b (Ok (midnight (day_of_fields date))) (Err BadDate))
    by_test false e = tt
    by_test true e = midnight_kept (day_of_fields date) (number_within date.year date.month date.day (IsDate-from_test date.year date.month date.day e) within)

pub day_kept : (bytes : List ℕ) → IfSome (day_of bytes) IsInstant
unfolding date_reading
day_kept bytes = date_kept (date_form (text_bytes bytes)) (date_within (text_bytes bytes))
