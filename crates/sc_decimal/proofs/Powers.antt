-- Digits under powers of ten.
use Rattle.std.proofs.Common.{◌≡◌, ◌≢◌, ℕ, ◌+◌, ◌*◌, ◌^◌, ◌<◌, ◌≤◌, refl, sym, ap, arith, Bool, true, false, cond, eqb}
use Rattle.std.proofs.lemmas.Bool.{eqb-true, ne_eqb}
use Rattle.std.proofs.lemmas.Nat.{pow-add}
use Rattle.std.proofs.Math.Nat.{mul-le-mul, mul_assoc}
use Rattle.sc_decimal.proofs.Scales.{tens, grows}
use Rattle.sc_decimal.specs.Digits.{Digits, add_digit}
use Rattle.sc_decimal.specs.Stands.{StandsFor}

-- a power that fits
pub unit_fits : (k : ℕ) → k ≤ 35 → 10 ^ k < 2 ^ 128
unit_fits k le = let g : 10 ^ k ≤ 10 ^ 35 = grows k 35 le in omega (arith, g)

-- what passed 34 digits goes on doing so
pub stays_wide : (s : Digits) (d : ℕ) → 10 ^ 34 ≤ s.m → 10 ^ 34 ≤ (add_digit s d).m
stays_wide s d h = go (eqb d 0) (eqb s.m 0) (eqb-true s.m 0)
  where
    go : (a b : Bool) → (b ≡ true → s.m ≡ 0) → 10 ^ 34 ≤ (cond {A = Digits} a (cond {A = Digits} b (record { m = 0; zeros = 0 }) (record { m = s.m; zeros = s.zeros + 1 })) (record { m = s.m * 10 ^ (s.zeros + 1) + d; zeros = 0 })).m
    go true true e = absurd (omega (arith, e refl, h))
    go true false e = h
    go false b e = let k : s.m * 1 ≤ s.m * 10 ^ (s.zeros + 1) = mul-le-mul (omega arith) (tens (s.zeros + 1)) in omega (arith, k)

-- zeros between make it too wide
pub becomes_wide : (m z d : ℕ) → 0 < m → 34 ≤ z → 10 ^ 34 ≤ m * 10 ^ (z + 1) + d
becomes_wide m z d some many =
    let g : 10 ^ 34 ≤ 10 ^ (z + 1) = grows 34 (z + 1) (omega arith) in
    let h : 1 * 10 ^ (z + 1) ≤ m * 10 ^ (z + 1) = mul-le-mul some (omega arith) in
    omega (arith, g, h)

pub wide_by_zeros : (s : Digits) (d : ℕ) → d ≢ 0 → 0 < s.m → 34 ≤ s.zeros → 10 ^ 34 ≤ (add_digit s d).m
wide_by_zeros s d some front many = rw (ne_eqb d 0 some) (becomes_wide s.m s.zeros d front many)

-- a digit behind the zeros
pub digit_stands : (s : Digits) (d shifted : ℕ) → d ≢ 0 → d < 10 → shifted ≡ s.m * 10 ^ (s.zeros + 1) → shifted < 10 ^ 34 → StandsFor (record { m = shifted + d; zeros = 0 }) (add_digit s d)
digit_stands s d shifted some digit is small =
    let e : s.m * 10 ^ (s.zeros + 1) ≡ s.m * 10 ^ s.zeros * 10 = rw (pow-add 10 s.zeros 1) (sym (mul_assoc s.m (10 ^ s.zeros) 10)) in
    let few : s.m * 10 ^ (s.zeros + 1) + d < 10 ^ 34 = omega (arith, e, is, small, digit) in
    rw (ne_eqb d 0 some) (record { m_is = ap (λ (x : ℕ). x + d) is; zeros_is = refl; few = few; trimmed = λ h. absurd (omega (arith, e, is, digit, h)) })
