-- Reading a token byte by byte.
use Rattle.std.proofs.Common.{◌≡◌, ℕ, ◌+◌, ◌-◌, ◌<◌, ◌≤◌, List, ◌∷◌, length, get_or, take, drop, Option, Some, None, true, false, refl, drop-cons, add-one, length-drop, arith}
use Rattle.std.proofs.lemmas.List.{take_all}
use Rattle.std.specs.Prelude.{IfSome}
use Rattle.std.proofs.Math.ListN.{drop_of_length-le}
use Rattle.sc_grammar.specs.declared.lexeme.Kind.{Kind}
use Rattle.sc_grammar.specs.declared.lexing.Part.{Part}
use Rattle.sc_grammar.specs.Lexing.{is_blank, blank_len, part_on, kind_of, Found, as_best, better, longest_from}

cut_at : (bs : List ℕ) (i : ℕ) → i < length bs → drop i bs ≡ get_or bs i 0 ∷ drop (i + 1) bs
cut_at bs i lt = rw (add-one, drop-cons bs i 0) refl

pub blank_on : (bs : List ℕ) (i : ℕ) → i < length bs → is_blank (get_or bs i 0) ≡ true → blank_len (drop i bs) ≡ blank_len (drop (i + 1) bs) + 1
unfolding blank_len
blank_on bs i lt e = rw (cut_at bs i lt, e) refl

pub blank_stops : (bs : List ℕ) (i : ℕ) → i < length bs → is_blank (get_or bs i 0) ≡ false → blank_len (drop i bs) ≡ 0
unfolding blank_len
blank_stops bs i lt e = rw (drop-cons bs i 0, e) refl

pub blank_ends : (bs : List ℕ) (i : ℕ) → length bs ≤ i → blank_len (drop i bs) ≡ 0
unfolding blank_len
blank_ends bs i le = rw (drop_of_length-le bs le) refl

pub longest_on : (bs : List ℕ) (i n : ℕ) (p q : Part) (best : Found) → i < length bs → part_on p (get_or bs i 0) ≡ Some q → longest_from (drop i bs) p n best ≡ longest_from (drop (i + 1) bs) q (n + 1) (better q (n + 1) best)
unfolding longest_from
longest_on bs i n p q best lt e = rw (cut_at bs i lt, e) refl

pub longest_stops : (bs : List ℕ) (i n : ℕ) (p : Part) (best : Found) → i < length bs → part_on p (get_or bs i 0) ≡ None → longest_from (drop i bs) p n best ≡ best
unfolding longest_from
longest_stops bs i n p best lt e = rw (drop-cons bs i 0, e) refl

pub longest_ends : (bs : List ℕ) (i n : ℕ) (p : Part) (best : Found) → length bs ≤ i → longest_from (drop i bs) p n best ≡ best
unfolding longest_from
longest_ends bs i n p best le = rw (drop_of_length-le bs le) refl

as_best_within : (k : Option Kind) (n : ℕ) (best : Found) → IfSome best (λ found. found.1 ≤ n) → IfSome (as_best k (n + 1) best) (λ found. found.1 ≤ n + 1)
as_best_within (Some k) n best h = omega arith
as_best_within None n None h = tt
as_best_within None n (Some f) h = omega arith

pub better_within : (q : Part) (n : ℕ) (best : Found) → IfSome best (λ found. found.1 ≤ n) → IfSome (better q (n + 1) best) (λ found. found.1 ≤ n + 1)
better_within q n best h = as_best_within (kind_of q) n best h

pub within_more : (n m : ℕ) (best : Found) → n ≤ m → IfSome best (λ found. found.1 ≤ n) → IfSome best (λ found. found.1 ≤ m)
within_more n m None le h = tt
within_more n m (Some f) le h = omega arith

-- the rest of a text from a place on
pub rest_is : (bs : List ℕ) (i : ℕ) → i ≤ length bs → take (length bs - i) (drop i bs) ≡ drop i bs
rest_is bs i le = take_all (length bs - i) (drop i bs) (omega (arith, length-drop i bs))
