-- The parts to which an item belongs: its start is an instant, so it has one key under a cut.
use Rattle.std.proofs.Common.{◌≡◌, ℕ, zero, suc, ◌+◌, ◌<◌, Bool, true, false, cond, ◌&&◌, ◌⊎◌, inl, inr, ⊎_elim, List, Option, Some, None, Result, Ok, Err, refl, sym, subst, arith, add-one, rules, ℤ, pos, ◌≤ℤ◌, ◌<ℤ◌, int_le, int_lt, bytes_eq}
use Rattle.std.proofs.lemmas.Bool.{and_parts, and_from}
use Rattle.std.proofs.lemmas.Bool.Decides.{Decides-int_eq}
use Rattle.std.proofs.lemmas.Int.{ints, by_lt_z}
use Rattle.sc_json.specs.declared.tree.Json.{Json}
use Rattle.sc_json.specs.declared.tree.Json.TheOpen as layer
use Rattle.sc_json.specs.declared.tree.Json.TheOpen.{Json-F}
use Rattle.sc_json.specs.declared.tree.Json.TheViews.{out-Json}
use Rattle.sc_json.specs.declared.tree.Member.{Member}
use Rattle.sc_json.specs.Member.{member_value}
use Rattle.sc_time.specs.declared.fault.TimeFault.{TimeFault}
use Rattle.sc_time.specs.declared.fault.TimeFault.TheVariants.{BadDate, OutOfRange}
use Rattle.sc_time.specs.declared.form.DateTimeFields.{DateTimeFields}
use Rattle.sc_time.specs.Form.{date_time_form}
use Rattle.sc_time.specs.Instant.{IsInstant, is_instant, year_start, month_start}
use Rattle.sc_time.specs.Reading.{instant_of_form, instant_reading, is_date_time, nanoseconds_of}
use Rattle.sc_time.proofs.Periods.{first_year, end_of_years}
use Rattle.sc_item.specs.Words.{datetime_name, start_name, end_name}
use Rattle.sc_item.specs.Times.{is_given, stamp_in, stamp_of, stamp_of_reading, stamp_of_value, times_in, times_of, times_of_pair}
use Rattle.sc_item.specs.Feature.{Feature}
use Rattle.sc_item.specs.Reading.{IsItem}
use Rattle.sc_cut.specs.declared.cut.Cut.{Cut}
use Rattle.sc_cut.specs.declared.cut.Cut.TheVariants.{Whole, Year, Month}
use Rattle.sc_cut.specs.declared.name.PartName.{PartName}
use Rattle.sc_cut.specs.Key.{HasKey, IsKey, has_key}
use Rattle.sc_cut.proofs.Keys.{key_in_range, tested}
use Rattle.sc_cut.proofs.Months.{first_month, end_of_months}
use Rattle.sc_history.specs.Names.{Fits, fits, is_key}
use Rattle.sc_history.proofs.Texts.{same_text, text_test}

-- ---- the start of an item is an instant

le_test : (a b : ℤ) → int_le a b ≡ true → a ≤ℤ b
le_test a b e = search rules

le_tested : (a b : ℤ) → a ≤ℤ b → int_le a b ≡ true
le_tested a b le = search rules

lt_test : (a b : ℤ) → int_lt a b ≡ true → a <ℤ b
lt_test a b e = search rules

instant_test : (at : ℤ) → is_instant at ≡ true → IsInstant at
instant_test at e = let both = and_parts _ _ e in (le_test _ at both.0, lt_test at _ both.1)

one_ok : (a b : ℤ) → (let r : Result ℤ TimeFault = Ok a in r ≡ Ok b) → a ≡ b
one_ok a b e = cc

read_instant : (text : List ℕ) (at : ℤ) → instant_reading text ≡ Ok at → IsInstant at
unfolding instant_reading
read_instant text at e = by_form (date_time_form text) e
  where
    by_range : (form : DateTimeFields) (b : Bool) → is_instant (nanoseconds_of form) ≡ b → cond b (Ok (nanoseconds_of form)) (Err OutOfRange) ≡ Ok at → IsInstant at
    by_range form true is e = subst IsInstant (one_ok (nanoseconds_of form) at e) (instant_test (nanoseconds_of form) is)
    by_range form false is e = absurd cc

    by_fields : (form : DateTimeFields) (b : Bool) → cond b (cond (is_instant (nanoseconds_of form)) (Ok (nanoseconds_of form)) (Err OutOfRange)) (Err BadDate) ≡ Ok at → IsInstant at
    by_fields form true e = by_range form (is_instant (nanoseconds_of form)) refl e
    by_fields form false e = absurd cc

    by_form : (form : Option DateTimeFields) → instant_of_form form ≡ Ok at → IsInstant at
    by_form None e = absurd cc
    by_form (Some form) e = by_fields form (is_date_time form) e

-- what holds of each kind of stamp holds of the stamp of a member
by_stamp : (P : _ → Type 0) → P (stamp_of None) → P (stamp_in layer.Null) → P (stamp_in (layer.Truth true)) → ((at : ℤ) → IsInstant at → P (stamp_of_reading (Ok at))) → (value : Option Json) → P (stamp_of value)
unfolding stamp_of_value
by_stamp P missing null other at None = missing
by_stamp P missing null other at (Some value) = by (out-Json value)
  where
    by_text : (text : List ℕ) (r : Result ℤ TimeFault) → instant_reading text ≡ r → P (stamp_of_reading r)
    by_text text (Ok found) e = at found (read_instant text found e)
    by_text text (Err fault) e = other

    by : (l : Json-F Json Member) → P (stamp_in l)
    by layer.Null = null
    by (layer.Truth b) = other
    by (layer.Number n) = other
    by (layer.Text t) = by_text t (instant_reading t) refl
    by (layer.List vs) = other
    by (layer.Object ms) = other

some_of : {A : Type 0} (t : Bool) (x y : A) → cond t (Some x) None ≡ Some y → x ≡ y
some_of true x y e = cc
some_of false x y e = absurd cc

one_of_two : {A : Type 0} (t : Bool) (o : Option A) (x y : A) → cond t o (Some x) ≡ Some y → (o ≡ Some y) ⊎ (x ≡ y)
one_of_two true o x y e = inl e
one_of_two false o x y e = inr cc

pair_timed : (a b : Option Json) (start end : ℤ) → times_of_pair (stamp_of a) (stamp_of b) ≡ Some (record { start = start; end = end }) → IsInstant start
pair_timed a b start end = by_stamp (λ s. times_of_pair s (stamp_of b) ≡ Some (record { start = start; end = end }) → IsInstant start) (λ e. absurd cc) (λ e. absurd cc) (λ e. absurd cc)
    (λ at is. by_stamp (λ s. times_of_pair (stamp_of_reading (Ok at)) s ≡ Some (record { start = start; end = end }) → IsInstant start) (λ e. absurd cc) (λ e. absurd cc) (λ e. absurd cc)
    (λ to is' e. let one = some_of (int_le at to) _ _ e in subst IsInstant (λ i. (one i).start) is) b) a

times_timed : (a b c : Option Json) (start end : ℤ) → times_of (stamp_of a) (stamp_of b) (stamp_of c) ≡ Some (record { start = start; end = end }) → IsInstant start
unfolding times_of
times_timed a b c start end = by_stamp (λ s. times_of s (stamp_of b) (stamp_of c) ≡ Some (record { start = start; end = end }) → IsInstant start) (λ e. absurd cc) (pair_timed b c start end) (λ e. absurd cc)
    (λ at is e. ⊎_elim (pair_timed b c start end) (λ one. subst IsInstant (λ i. (one i).start) is) (one_of_two (is_given (stamp_of b) && is_given (stamp_of c)) _ _ _ e)) a

pub item_instant : (collection : List ℕ) (tree : Json) (item : Feature) → IsItem collection tree item → IsInstant item.start
unfolding times_in
item_instant collection tree item is =
    let p = is.parts.properties in
    times_timed (member_value p datetime_name) (member_value p start_name) (member_value p end_name) item.start item.end is.parts.times

-- ---- an instant has a key

steps : (f : ℕ → ℤ) (n : ℕ) (at : ℤ) → f 0 ≤ℤ at → at <ℤ f n → (k : ℕ) × (k < n) × (f k ≤ℤ at) × (at <ℤ f (k + 1))
steps f zero at low high = absurd (omega (arith, ints))
steps f (suc n) at low high = by_lt_z at (f n) (λ lt. wider (steps f n at low lt)) (λ le. (n, omega arith, le, subst (λ m. at <ℤ f m) (sym (add-one n)) high))
  where
    wider : ((k : ℕ) × (k < n) × (f k ≤ℤ at) × (at <ℤ f (k + 1))) → (k : ℕ) × (k < suc n) × (f k ≤ℤ at) × (at <ℤ f (k + 1))
    wider (k, lt, le, high) = (k, omega (arith, lt), le, high)

pub key_there : (cut : Cut) (at : ℤ) → IsInstant at → (key : ℤ) × IsKey cut key × HasKey cut key at
key_there Whole at (low, high) = (pos 0, refl, refl)
key_there Year at (low, high) =
    let found = steps year_start 10000 at (rw first_year low) (rw end_of_years high) in
    let lt = found.1 in
    (pos found.0, (omega (arith, ints), omega (arith, ints)), (omega (arith, ints), record { begun = found.2; not_over = found.3 }))
key_there Month at (low, high) =
    let found = steps month_start 120000 at (rw first_month low) (rw end_of_months high) in
    let lt = found.1 in
    (pos found.0, (omega (arith, ints), omega (arith, ints)), (omega (arith, ints), record { begun = found.2; not_over = found.3 }))

-- ---- the tests

key_test : (cut : Cut) (key : ℤ) → is_key cut key ≡ true → IsKey cut key
key_test Whole key e = (Decides-int_eq key (pos 0)).0 e
key_test Year key e = let both = and_parts _ _ e in (le_test _ key both.0, le_test key _ both.1)
key_test Month key e = let both = and_parts _ _ e in (le_test _ key both.0, le_test key _ both.1)

key_tested : (cut : Cut) (key : ℤ) → IsKey cut key → is_key cut key ≡ true
key_tested Whole key is = (Decides-int_eq key (pos 0)).1 is
key_tested Year key is = and_from _ _ (le_tested _ key is.0) (le_tested key _ is.1)
key_tested Month key is = and_from _ _ (le_tested _ key is.0) (le_tested key _ is.1)

pub fits_is : (name : PartName) (item : Feature) → IsInstant item.start → fits name item ≡ true → Fits name item
fits_is name item at e =
    let last = and_parts (bytes_eq item.collection name.collection && is_key name.cut name.key) (has_key name.cut name.key item.start) e in
    let first = and_parts (bytes_eq item.collection name.collection) (is_key name.cut name.key) last.0 in
    let some = key_test name.cut name.key first.1 in
    record { collection = same_text item.collection name.collection first.0; key = (tested name.cut name.key item.start some at).0 last.1 }

pub is_fits : (name : PartName) (item : Feature) → IsInstant item.start → Fits name item → fits name item ≡ true
is_fits name item at f =
    let some = key_in_range name.cut name.key item.start at f.key in
    and_from _ _ (and_from _ _ (text_test item.collection name.collection f.collection) (key_tested name.cut name.key some)) ((tested name.cut name.key item.start some at).1 f.key)
