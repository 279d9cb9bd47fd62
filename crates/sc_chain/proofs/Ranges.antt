-- Ranges of starts in a direction: which ends no later than another, which reaches another, and which comes before it.
use Rattle.std.proofs.Common.{◌≡◌, ℤ, ◌≤ℤ◌, ◌<ℤ◌, Bool, true, false, Option, Some, None, rules, refl, arith}
use Rattle.std.specs.Prelude.{int_le}
use Rattle.std.proofs.lemmas.Int.{ints}
use Rattle.sc_bounds.specs.Moments.{HasMoment}
use Rattle.sc_chain.specs.Chunks.{IsBefore}

abbrev pub Range : Type 0
Range = Option (ℤ × ℤ)

abbrev pub IsRange : Range → Type 0
IsRange None = ⊥
IsRange (Some range) = range.0 ≤ℤ range.1

-- in a direction the first ends no later than the second
abbrev pub no_later : Bool → Range → Range → Bool
no_later down None b = true
no_later down (Some a) None = false
no_later true (Some a) (Some b) = int_le b.0 a.0
no_later false (Some a) (Some b) = int_le a.1 b.1

-- the second begins by the end of the first
abbrev pub reaches : Bool → Range → Range → Bool
reaches down None b = false
reaches down (Some a) None = false
reaches true (Some a) (Some b) = int_le a.0 b.1
reaches false (Some a) (Some b) = int_le b.0 a.1

abbrev pub Meets : Range → Range → Type 0
Meets a b = (at : ℤ) × HasMoment a at × HasMoment b at

abbrev pub Precedes : Bool → Range → Range → Type 0
Precedes down a b = (x y : ℤ) → HasMoment a x → HasMoment b y → IsBefore down x y

le_told : (a b : ℤ) → int_le a b ≡ true → a ≤ℤ b
le_told a b e = search (rules, e)

gt_told : (a b : ℤ) → int_le a b ≡ false → b <ℤ a
gt_told a b e = search (rules, e)

le_tested : (a b : ℤ) → a ≤ℤ b → int_le a b ≡ true
le_tested a b h = search (rules, h)

pub no_later_other : (down : Bool) (a b : Range) → no_later down a b ≡ false → no_later down b a ≡ true
no_later_other down None b e = cc
no_later_other true (Some a) None e = refl
no_later_other false (Some a) None e = refl
no_later_other true (Some a) (Some b) e = let l = gt_told b.0 a.0 e in le_tested a.0 b.0 (omega (arith, ints, l))
no_later_other false (Some a) (Some b) e = let l = gt_told a.1 b.1 e in le_tested b.1 a.1 (omega (arith, ints, l))

pub no_later_trans : (down : Bool) (a b c : Range) → no_later down a b ≡ true → no_later down b c ≡ true → no_later down a c ≡ true
no_later_trans down None b c e f = refl
no_later_trans down (Some a) None c e f = cc
no_later_trans down (Some a) (Some b) None e f = cc
no_later_trans true (Some a) (Some b) (Some c) e f = let l = le_told b.0 a.0 e in let m = le_told c.0 b.0 f in le_tested c.0 a.0 (omega (arith, ints, l, m))
no_later_trans false (Some a) (Some b) (Some c) e f = let l = le_told a.1 b.1 e in let m = le_told b.1 c.1 f in le_tested a.1 c.1 (omega (arith, ints, l, m))

pub meets : (down : Bool) (a b : Range) → IsRange a → IsRange b → no_later down a b ≡ true → reaches down a b ≡ true → Meets a b
meets down None b i j e f = absurd i
meets down (Some a) None i j e f = absurd j
meets true (Some a) (Some b) i j e f = let l = le_told b.0 a.0 e in let m = le_told a.0 b.1 f in (a.0, (omega (arith, ints), i), (l, m))
meets false (Some a) (Some b) i j e f = let l = le_told a.1 b.1 e in let m = le_told b.0 a.1 f in (a.1, (i, omega (arith, ints)), (m, l))

pub precedes : (down : Bool) (a b : Range) → reaches down a b ≡ false → Precedes down a b
precedes down None b e x y h i = absurd h
precedes down (Some a) None e x y h i = absurd i
precedes true (Some a) (Some b) e x y h i = let l = gt_told a.0 b.1 e in let m = h.0 in let n = i.1 in omega (arith, ints, l, m, n)
precedes false (Some a) (Some b) e x y h i = let l = gt_told b.0 a.1 e in let m = h.1 in let n = i.0 in omega (arith, ints, l, m, n)

pub sooner : (down : Bool) (a b c : Range) → IsRange b → no_later down a b ≡ true → Precedes down b c → Precedes down a c
sooner down None b c i e p x y h j = absurd h
sooner down (Some a) None c i e p x y h j = absurd i
sooner true (Some a) (Some b) c i e p x y h j = let l = le_told b.0 a.0 e in let m = p b.0 y (omega (arith, ints), i) j in let n = h.0 in omega (arith, ints, l, m, n)
sooner false (Some a) (Some b) c i e p x y h j = let l = le_told a.1 b.1 e in let m = p b.1 y (i, omega (arith, ints)) j in let n = h.1 in omega (arith, ints, l, m, n)
