-- Hexadecimal digits.
use Rattle.std.proofs.Common.{◌≡◌, ◌≢◌, ℕ, ◌-◌, ◌<◌, ◌≤◌, Bool, true, false, cond, leb, ◌&&◌, Option, Some, None, refl, arith}
use Rattle.std.proofs.lemmas.Bool.Decides.{nat_tests}
use Rattle.sc_json.specs.Hex.{hex_of}
use Rattle.sc_json.specs.Grammar.{AreHex}

-- a digit is no quote, and is ASCII; its number is below 16
pub hex_is : (b x : ℕ) → hex_of b ≡ Some x → (b ≢ 34) × (x < 16) × (b < 128)
hex_is b x h = split (leb 48 b && leb b 57) (leb 65 b && leb b 70) (leb 97 b && leb b 102) refl refl refl h
  where
    some_is : (y z : ℕ) → Some y ≡ Some z → y ≡ z
    some_is y z e = cc

    between : (l u : ℕ) → (leb l b && leb b u) ≡ true → (l ≤ b) × (b ≤ u)
    between l u e = grind (arith, nat_tests)

    split : (p q r : Bool) → (leb 48 b && leb b 57) ≡ p → (leb 65 b && leb b 70) ≡ q → (leb 97 b && leb b 102) ≡ r
        → cond {A = Option ℕ} p (Some (b - 48)) (cond {A = Option ℕ} q (Some (b - 55)) (cond {A = Option ℕ} r (Some (b - 87)) None)) ≡ Some x → (b ≢ 34) × (x < 16) × (b < 128)
    split true q r f g k e = let y = between 48 57 f in let z : b - 48 ≡ x = some_is (b - 48) x e in (omega (arith, y.0, y.1), omega (arith, y.0, y.1, z), omega (arith, y.1))
    split false true r f g k e = let y = between 65 70 g in let z : b - 55 ≡ x = some_is (b - 55) x e in (omega (arith, y.0, y.1), omega (arith, y.0, y.1, z), omega (arith, y.1))
    split false false true f g k e = let y = between 97 102 k in let z : b - 87 ≡ x = some_is (b - 87) x e in (omega (arith, y.0, y.1), omega (arith, y.0, y.1, z), omega (arith, y.1))
    split false false false f g k e = absurd cc

pub code_below : (a b c d code : ℕ) → AreHex a b c d code → code < 65536
code_below a b c d code h =
    let w = hex_is a h.w h.w_is in let x = hex_is b h.x h.x_is in let y = hex_is c h.y h.y_is in let z = hex_is d h.z h.z_is in
    omega (arith, w.1, x.1, y.1, z.1, h.code_is)
