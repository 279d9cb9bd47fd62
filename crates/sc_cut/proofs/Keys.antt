-- Which instants have a key, and which keys instants have.
use Rattle.std.proofs.Common.{rules, ◌≡◌, ◌↔◌, ℕ, ◌+◌, ◌*◌, ◌≤◌, inl, inr, sym, ◌∙◌, subst, arith, ℤ, pos, ◌+ℤ◌, ◌-ℤ◌, ◌*ℤ◌, ◌≤ℤ◌, ◌<ℤ◌, Option, Some, None, cond, true, ◌&&◌, int_le, int_lt, unsigned_abs, IsTrue}
use Rattle.std.proofs.lemmas.Int.{ints}
use Rattle.std.proofs.lemmas.Bool.{cases_lt}
use Rattle.jiff_core.proofs.SignedLemmas.{signed_arith}
use Rattle.jiff_core.specs.Calendar.{IsBetween}
use Rattle.std.proofs.Common.{SomeIff}
use Rattle.sc_time.specs.Ends.{Ends, are_ordered}
use Rattle.sc_time.specs.Instant.{IsInstant, IsInYear, IsInMonth, year_start, month_start, month_key}
use Rattle.sc_time.proofs.Periods.{first_year, end_of_years, same_year, same_month}
use Rattle.sc_cut.specs.declared.cut.Cut.{Cut}
use Rattle.sc_cut.specs.declared.cut.Cut.TheVariants.{Whole, Year, Month}
use Rattle.sc_cut.specs.Key.{HasKey, IsKey, has_key}
use Rattle.sc_cut.specs.Span.{LiesIn, span}
use Rattle.sc_cut.proofs.Months.{month_start-mono, month_start-nonempty, year_start-month, year_start-next, first_month, end_of_months}

-- a start has a key exactly where it lies in the span of the key
pub lies_in_span : (cut : Cut) (key at : ℤ) → IsInstant at → HasKey cut key at → LiesIn (span cut key) at
lies_in_span Whole key at (low, high) is = record { begun = rw first_year low; not_over = rw end_of_years (omega (arith, signed_arith)) }
lies_in_span Year key at is (some, here) = let over = here.not_over in record { begun = here.begun; not_over = omega (arith, signed_arith) }
lies_in_span Month key at is (some, here) = let over = here.not_over in record { begun = here.begun; not_over = omega (arith, signed_arith) }

pub has_key_in_span : (cut : Cut) (key at : ℤ) → IsKey cut key → LiesIn (span cut key) at → HasKey cut key at
has_key_in_span Whole key at is here = is
has_key_in_span Year key at is here = let over = here.not_over in (is.0, record { begun = here.begun; not_over = omega (arith, signed_arith) })
has_key_in_span Month key at is here = let over = here.not_over in (is.0, record { begun = here.begun; not_over = omega (arith, signed_arith) })

pub span_of_range : (cut : Cut) (key : ℤ) (range : Ends) → range ≡ span cut key → IsKey cut key → (at : ℤ) → IsInstant at → HasKey cut key at ↔ LiesIn range at
span_of_range cut key range same is at instant =
    let Both : Ends → Type 0 = λ ends. HasKey cut key at ↔ LiesIn ends at in
    subst Both (sym same) (lies_in_span cut key at instant, has_key_in_span cut key at is)

-- the spans in months
pub whole_span : (cut : Cut) (key : ℤ) (range : Ends) → cut ≡ Whole → range ≡ record { from = Some (month_start 0); to = Some (month_start 120000 -ℤ pos 1) } → range ≡ span cut key
whole_span cut key range is same =
    let P : Cut → Type 0 = λ c. range ≡ span c key in
    subst P (sym is) (rw (year_start-month 0, year_start-month 10000) same)

pub year_span : (cut : Cut) (key : ℤ) (first : ℕ) (range : Ends) → cut ≡ Year → first ≡ 12 * unsigned_abs key → range ≡ record { from = Some (month_start first); to = Some (month_start (first + 11 + 1) -ℤ pos 1) } → range ≡ span cut key
year_span cut key first range is months same =
    let P : Cut → Type 0 = λ c. range ≡ span c key in
    subst P (sym is) (rw (year_start-month (unsigned_abs key), year_start-next (unsigned_abs key), sym months) same)

pub month_span : (cut : Cut) (key : ℤ) (month : ℕ) (range : Ends) → cut ≡ Month → month ≡ unsigned_abs key → range ≡ record { from = Some (month_start month); to = Some (month_start (month + 1) -ℤ pos 1) } → range ≡ span cut key
month_span cut key month range is number same =
    let P : Cut → Type 0 = λ c. range ≡ span c key in
    subst P (sym is) (rw (sym number) same)

-- two keys that aren't negative are equal where their numbers are
same_number : (one other : ℤ) → pos 0 ≤ℤ one → pos 0 ≤ℤ other → unsigned_abs one ≡ unsigned_abs other → one ≡ other
same_number one other a b same = omega (arith, ints)

pub one_key_only : (cut : Cut) (one other at : ℤ) → HasKey cut one at → HasKey cut other at → one ≡ other
one_key_only Whole one other at a b = a ∙ sym b
one_key_only Year one other at a b = same_number one other a.0 b.0 (same_year (unsigned_abs one) (unsigned_abs other) at a.1 b.1)
one_key_only Month one other at a b = same_number one other a.0 b.0 (same_month (unsigned_abs one) (unsigned_abs other) at a.1 b.1)

-- the key of a month from its year and its place there
pub key_of_month : (year month key at : ℤ) → IsBetween (pos 0) (pos 9_999) year → IsBetween (pos 1) (pos 12) month → key ≡ (pos 12 *ℤ year +ℤ month -ℤ pos 1) →
    IsInYear (unsigned_abs year) at → ((y : ℕ) → IsInYear y at → IsInMonth (month_key y (unsigned_abs month)) at) → HasKey Month key at × IsKey Month key
key_of_month year month key at years months is here in_month =
    let number : unsigned_abs key ≡ month_key (unsigned_abs year) (unsigned_abs month) = omega (arith, ints) in
    ((omega (arith, ints), rw number (in_month (unsigned_abs year) here)), (omega (arith, ints), omega (arith, ints)))

-- every key of the years 0000 to 9999 is that of an instant
month_start_instant : (month : ℕ) → month ≤ 119_999 → IsInstant (month_start month)
month_start_instant month le =
    let low = month_start-mono 0 month (omega arith) in
    let next = month_start-nonempty month in
    let high = month_start-mono (month + 1) 120000 (omega arith) in
    (rw (sym first_month) low, omega (arith, signed_arith, end_of_months))

year_first : (year : ℕ) → IsInYear year (year_start year)
year_first year =
    let next = month_start-nonempty (12 * year) in
    let later = month_start-mono (12 * year + 1) (12 * year + 11 + 1) (omega arith) in
    record { begun = omega (arith, signed_arith); not_over = rw (year_start-next year, year_start-month year) (omega (arith, signed_arith)) }

pub key_used : (cut : Cut) (key : ℤ) → IsKey cut key → (at : ℤ) × IsInstant at × HasKey cut key at
key_used Whole key is = (pos 0, (omega (arith, signed_arith), omega (arith, signed_arith)), is)
key_used Year key is =
    let le : 12 * unsigned_abs key ≤ 119_999 = omega (arith, ints, is.0, is.1) in
    (year_start (unsigned_abs key), rw (year_start-month (unsigned_abs key)) (month_start_instant (12 * unsigned_abs key) le), (is.0, year_first (unsigned_abs key)))
key_used Month key is =
    let le : unsigned_abs key ≤ 119_999 = omega (arith, ints, is.0, is.1) in
    (month_start (unsigned_abs key), month_start_instant (unsigned_abs key) le, (is.0, record { begun = omega (arith, signed_arith); not_over = month_start-nonempty (unsigned_abs key) }))

-- and no other key is
month_in_range : (month : ℕ) (at : ℤ) → IsInstant at → month_start month ≤ℤ at → month ≤ 119_999
month_in_range month at (low, high) begun =
    elim (cases_lt month 120000) [
      | inl early ↦ omega arith
      | inr late ↦ let order = month_start-mono 120000 month late in absurd (omega (arith, signed_arith, end_of_months))
    ]

pub key_in_range : (cut : Cut) (key at : ℤ) → IsInstant at → HasKey cut key at → IsKey cut key
key_in_range Whole key at instant has = has
key_in_range Year key at instant (some, here) =
    let begun : month_start (12 * unsigned_abs key) ≤ℤ at = rw (year_start-month (unsigned_abs key)) at here.begun in
    let le = month_in_range (12 * unsigned_abs key) at instant begun in
    (some, omega (arith, ints))
key_in_range Month key at instant (some, here) =
    let le = month_in_range (unsigned_abs key) at instant here.begun in
    (some, omega (arith, ints))

-- the test
pub between_test : (low at end : ℤ) → (IsTrue (int_le low at && int_lt at end) → (low ≤ℤ at) × (at <ℤ end)) × ((low ≤ℤ at) × (at <ℤ end) → IsTrue (int_le low at && int_lt at end))
between_test low at end = search rules

pub tested : (cut : Cut) (key at : ℤ) → IsKey cut key → IsInstant at → (IsTrue (has_key cut key at) → HasKey cut key at) × (HasKey cut key at → IsTrue (has_key cut key at))
tested Whole key at is (low, high) =
    let test = between_test (year_start 0) at (year_start 10000) in
    (λ _. is, λ _. test.1 (rw first_year low, rw end_of_years high))
tested Year key at is instant =
    let test = between_test (year_start (unsigned_abs key)) at (year_start (unsigned_abs key + 1)) in
    (λ yes. (is.0, record { begun = (test.0 yes).0; not_over = (test.0 yes).1 }), λ has. test.1 (has.1.begun, has.1.not_over))
tested Month key at is instant =
    let test = between_test (month_start (unsigned_abs key)) at (month_start (unsigned_abs key + 1)) in
    (λ yes. (is.0, record { begun = (test.0 yes).0; not_over = (test.0 yes).1 }), λ has. test.1 (has.1.begun, has.1.not_over))

-- two instants in order are a range
le_test : (a b : ℤ) → a ≤ℤ b → int_le a b ≡ true
le_test a b le = search rules

pub is_range : (from to : Option ℤ) (a b : ℤ) (range : Option Ends) → SomeIff from (IsInstant a) a → SomeIff to (IsInstant b) b → IsInstant a → IsInstant b → a ≤ℤ b →
    range ≡ cond (are_ordered from to) (Some (record { from = from; to = to })) None → range ≡ None → ⊥
is_range None to a b range refused second first last le is none = refused first
is_range (Some x) None a b range first_is refused first last le is none = refused last
is_range (Some x) (Some y) a b range first_is last_is first last le is none =
    let order : x ≤ℤ y = rw (first_is.1, last_is.1) le in
    let yes = rw (le_test x y order) at is in
    cc
