-- A number's text, one byte at a time.
use Rattle.std.proofs.Common.{◌≡◌, ℕ, ◌+◌, ◌<◌, ◌≤◌, List, length, get_or, drop, Option, Some, None, Result, Ok, Err, refl, sym, ◌∙◌, subst, drop-cons, add-one}
use Rattle.std.proofs.Math.ListN.{drop_of_length-le}
use Rattle.sc_decimal.specs.declared.form.Form.{Form}
use Rattle.sc_decimal.specs.declared.reading.Scan.{Scan}
use Rattle.sc_decimal.specs.declared.number.NumFault.{NumFault}
use Rattle.sc_decimal.specs.declared.number.NumFault.TheVariants.{NotANumber, NumberTooWide}
use Rattle.sc_decimal.specs.Number as numbers
use Rattle.sc_decimal.specs.Digits.{Seen, seen_in, seen_step, seen_from, seen_of, nothing_seen, whole_seen}
use Rattle.sc_decimal.specs.Stands.{Keeps, KeepsNext}
use Rattle.sc_decimal.specs.Value.{AnswersSeen, Answers, is_number, number_of, is_wide}

pub seen_on : (bs : List ℕ) (i : ℕ) (s t : Seen) → i < length bs → seen_step s (get_or bs i 0) ≡ Some t → seen_from (drop i bs) s ≡ seen_from (drop (i + 1) bs) t
unfolding seen_from
seen_on bs i s t lt h = rw (add-one, drop-cons bs i 0, h) refl

pub seen_stops : (bs : List ℕ) (i : ℕ) (s : Seen) → i < length bs → seen_step s (get_or bs i 0) ≡ None → seen_from (drop i bs) s ≡ None
unfolding seen_from
seen_stops bs i s lt h = rw (drop-cons bs i 0, h) refl

pub seen_ends : (bs : List ℕ) (i : ℕ) (s : Seen) → length bs ≤ i → seen_from (drop i bs) s ≡ Some s
unfolding seen_from
seen_ends bs i s le = rw (drop_of_length-le bs le) refl

-- the step of what is kept is that of what was seen
pub same_step : (scan : Scan) (s : Seen) (b : ℕ) → scan.form ≡ s.form → seen_in scan.form s b ≡ seen_step s b
unfolding seen_step
same_step scan s b e = subst (λ (f : Form). seen_in scan.form s b ≡ seen_in f s b) e refl

pub none_next : (o : Option Seen) (n : ℕ) → KeepsNext None o n → o ≡ None
none_next None n h = refl
none_next (Some s) n h = absurd h

pub some_next : (scan : Scan) (o : Option Seen) (n : ℕ) → KeepsNext (Some scan) o n → (t : Seen) × (o ≡ Some t) × Keeps scan t n
some_next scan None n h = absurd h
some_next scan (Some t) n h = (t, refl, h)

pub at_end : (text : List ℕ) (o : Option Seen) (r : Result numbers.Number NumFault) → seen_from text nothing_seen ≡ o → AnswersSeen (whole_seen o) r → AnswersSeen (seen_of text) r
unfolding seen_of
at_end text o r e h = subst (λ (x : Option Seen). AnswersSeen (whole_seen x) r) (sym e) h

pub answers : (text : List ℕ) (r : Result numbers.Number NumFault) → AnswersSeen (seen_of text) r → Answers text r
unfolding is_number number_of is_wide
answers text r h = go (seen_of text) refl r h
  where
    go : (o : Option Seen) → seen_of text ≡ o → (r : Result numbers.Number NumFault) → AnswersSeen o r → Answers text r
    go None e (Ok d) h = absurd cc
    go None e (Err NotANumber) h = (rw e refl, rw e refl)
    go None e (Err NumberTooWide) h = absurd cc
    go (Some s) e (Ok d) h = (rw e refl, h.0 ∙ sym (rw e refl), rw (e, h.1) refl)
    go (Some s) e (Err NotANumber) h = absurd h
    go (Some s) e (Err NumberTooWide) h = rw (e, h) refl
