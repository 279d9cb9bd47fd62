-- Which whole number a number is.
use Rattle.std.proofs.Common.{zero, suc, ◌≡◌, ℕ, ◌*◌, ◌%◌, ◌^◌, ◌<◌, ◌≤◌, refl, sym, ap, ◌∙◌, inl, inr, arith, ℤ, pos, negsuc, ◌≤ℤ◌, ◌<ℤ◌, neg_ℤ, Bool, true, false, ltb, cond, Some, None, Equal, FitsSigned}
use Rattle.std.proofs.lemmas.Int.{ints}
use Rattle.std.proofs.lemmas.Bool.{cases_lt}
use Rattle.std.proofs.lemmas.Bool.Decides.{nat_tests}
use Rattle.std.proofs.Math.Nat.{mul-le-mul}
use Rattle.std.specs.Int.{w128}
use Rattle.sc_decimal.specs.Number.{Number, signed, size_of, above, number_in, counted_in, order_of, integer, whole_of, integer_of, IsNormal, IsDec}
use Rattle.sc_decimal.proofs.Nearest.{above_itself}
use Rattle.sc_decimal.proofs.Scales.{grows}
use Rattle.sc_decimal.proofs.Order.{order_at, above_is, size_is, int_equal, equal_int, signed_same, ten_divides, zero_is, counted_some}

-- ---- whole numbers as numbers

exponent_is : (i : ℤ) → (integer i).e ≡ pos 0
exponent_is (pos n) = refl
exponent_is (negsuc n) = refl

itself : (n : ℕ) → n * 10 ^ above (pos 0) (pos 0) ≡ n
itself n = ap (λ (k : ℕ). n * 10 ^ k) (above_itself (pos 0)) ∙ omega arith

integer_in : (i : ℤ) → number_in (pos 0) (integer i) ≡ i
integer_in (pos n) = ap (signed false) (itself n)
integer_in (negsuc n) = ap (signed true) (itself (suc n))

level : (e : ℤ) → pos 0 ≤ℤ e → above e (pos 0) ≡ size_of e
level e h = let a = above_is e (pos 0) h in let b = size_is e h in omega (arith, ints)

number_level : (n : Number) → pos 0 ≤ℤ n.e → number_in (pos 0) n ≡ signed n.neg (n.m * 10 ^ size_of n.e)
number_level n h = ap (λ (k : ℕ). signed n.neg (n.m * 10 ^ k)) (level n.e h)

module _ (n : Number) (i : ℤ) where
  compared : pos 0 ≤ℤ n.e → order_of n (integer i) ≡ Equal → signed n.neg (n.m * 10 ^ size_of n.e) ≡ i
  compared h e =
      let low : pos 0 ≤ℤ (integer i).e = (let z = exponent_is i in omega (arith, ints)) in
      sym (number_level n h) ∙ int_equal (number_in (pos 0) n) (number_in (pos 0) (integer i)) (sym (order_at n (integer i) (pos 0) h low) ∙ e) ∙ integer_in i

  equals : pos 0 ≤ℤ n.e → signed n.neg (n.m * 10 ^ size_of n.e) ≡ i → order_of n (integer i) ≡ Equal
  equals h e =
      let low : pos 0 ≤ℤ (integer i).e = (let z = exponent_is i in omega (arith, ints)) in
      order_at n (integer i) (pos 0) h low ∙ equal_int (number_in (pos 0) n) (number_in (pos 0) (integer i)) (number_level n h ∙ e ∙ sym (integer_in i))

  -- digits that don't end in a 0 leave a fraction below an exponent of 0
  fraction : IsNormal n → n.e <ℤ pos 0 → order_of n (integer i) ≡ Equal → ⊥
  fraction normal below e = elim (cases_lt 0 n.m) [
    | inl some ↦
        let z = exponent_is i in
        let same = signed_same n.neg (integer i).neg (counted_in n.e n) (counted_in n.e (integer i))
        (int_equal (number_in n.e n) (number_in n.e (integer i)) (sym (order_at n (integer i) n.e (omega (arith, ints)) (omega (arith, ints))) ∙ e)) (counted_some n.e n some) in
        let up : 0 < above (integer i).e n.e = (let a = above_is (integer i).e n.e (omega (arith, ints)) in omega (arith, ints)) in
        let here : n.m * 10 ^ above n.e n.e ≡ n.m = ap (λ (k : ℕ). n.m * 10 ^ k) (above_itself n.e) ∙ omega arith in
        let tens : n.m % 10 ≡ 0 = ap (λ (k : ℕ). k % 10) (sym here ∙ same.1) ∙ ten_divides (integer i).m (above (integer i).e n.e) up in
        let nothing : n.m ≡ 0 = ap (λ (x : Number). x.m) (normal.trimmed tens) in
        absurd (omega arith)
    | inr none ↦
        let flat : n.e ≡ pos 0 = ap (λ (x : Number). x.e) (zero_is n normal (omega arith)) in
        absurd (omega (arith, ints))
  ]

-- ---- the definition

pub whole_some : (neg : Bool) (m k : ℕ) → m * 10 ^ k < 2 ^ 127 → whole_of neg m (pos k) ≡ Some (signed neg (m * 10 ^ k))
whole_some neg m k small = let t : ltb (m * 10 ^ k) (2 ^ 127) ≡ true = grind (arith, nat_tests) in ap (λ (b : Bool). cond b (Some (signed neg (m * 10 ^ k))) None) t

pub whole_none : (neg : Bool) (m k : ℕ) → 2 ^ 127 ≤ m * 10 ^ k → whole_of neg m (pos k) ≡ None
whole_none neg m k great = let t : ltb (m * 10 ^ k) (2 ^ 127) ≡ false = grind (arith, nat_tests) in ap (λ (b : Bool). cond b (Some (signed neg (m * 10 ^ k))) None) t

-- what is told is equal
whole_told : (neg : Bool) (m : ℕ) (e i : ℤ) → whole_of neg m e ≡ Some i → (pos 0 ≤ℤ e) × (signed neg (m * 10 ^ size_of e) ≡ i)
whole_told neg m (negsuc k) i h = absurd (let n : None ≡ Some i = h in cc)
whole_told neg m (pos k) i h = elim (cases_lt (m * 10 ^ k) (2 ^ 127)) [
  | inl small ↦ (omega (arith, ints), (let s : Some (signed neg (m * 10 ^ k)) ≡ Some i = sym (whole_some neg m k small) ∙ h in cc))
  | inr great ↦ absurd (let n : None ≡ Some i = sym (whole_none neg m k great) ∙ h in cc)
]

pub told_equal : (n : Number) (i : ℤ) → integer_of n ≡ Some i → order_of n (integer i) ≡ Equal
told_equal n i h = let t = whole_told n.neg n.m n.e i h in equals n i t.0 t.1

-- no kept number has the magnitude 2^127, which has 39 digits of which the last is no 0
least_not : (m k : ℕ) → m < 10 ^ 34 → m * 10 ^ k ≡ 2 ^ 127 → ⊥
least_not m zero small e = absurd (omega arith)
least_not m (suc k) small e = let t : (m * 10 ^ suc k) % 10 ≡ 0 = ten_divides m (suc k) (omega arith) in absurd (omega (arith, t, e))

small_size : (neg : Bool) (m k : ℕ) (i : ℤ) → m < 10 ^ 34 → FitsSigned w128 i → signed neg (m * 10 ^ k) ≡ i → m * 10 ^ k < 2 ^ 127
small_size false m k i few fits e = omega (arith, ints, fits)
small_size true m k i few fits e = elim (cases_lt (m * 10 ^ k) (2 ^ 127)) [
  | inl small ↦ small
  | inr great ↦ absurd (least_not m k few (least (m * 10 ^ k) i fits great e))
]
  where
    least : (s : ℕ) (i : ℤ) → FitsSigned w128 i → 2 ^ 127 ≤ s → neg_ℤ (pos s) ≡ i → s ≡ 2 ^ 127
    least s i fits great e = omega (arith, ints, fits)

equal_whole : (neg : Bool) (m : ℕ) (e i : ℤ) → m < 10 ^ 34 → FitsSigned w128 i → pos 0 ≤ℤ e → signed neg (m * 10 ^ size_of e) ≡ i → whole_of neg m e ≡ Some i
equal_whole neg m (pos k) i few fits h e = whole_some neg m k (small_size neg m k i few fits e) ∙ ap (λ (x : ℤ). Some x) e
equal_whole neg m (negsuc k) i few fits h e = absurd (omega (arith, ints))

pub equal_told : (n : Number) (i : ℤ) → IsDec n → FitsSigned w128 i → order_of n (integer i) ≡ Equal → integer_of n ≡ Some i
equal_told n i d fits e = go n.e refl
  where
    go : (x : ℤ) → n.e ≡ x → integer_of n ≡ Some i
    go (pos k) f = (let h : pos 0 ≤ℤ n.e = omega (arith, ints) in equal_whole n.neg n.m n.e i d.narrow.digits fits h (compared n i h e))
    go (negsuc k) f = absurd (fraction n i d.normal (omega (arith, ints)) e)

-- ---- magnitudes

pub great_power : (m e : ℕ) → 38 < e → 0 < m → 2 ^ 127 ≤ m * 10 ^ e
great_power m e far some =
    let g : 10 ^ 39 ≤ 10 ^ e = grows 39 e (omega arith) in
    let one : 1 ≤ m = omega arith in
    let h : 1 * 10 ^ e ≤ m * 10 ^ e = mul-le-mul {n₁ = 1} one (omega arith) in
    omega (arith, g, h)

-- only zero has no digit
pub some_digit : (neg : Bool) (m : ℕ) (e : ℤ) → IsDec (record { neg = neg; m = m; e = e }) → pos 0 <ℤ e → 0 < m
some_digit neg m e d up = elim (cases_lt 0 m) [
  | inl some ↦ some
  | inr none ↦
      let flat : e ≡ pos 0 = ap (λ (x : Number). x.e) (zero_is (record { neg = neg; m = m; e = e }) d.normal (omega arith)) in
      absurd (omega (arith, ints))
]

pub small_power : (e : ℕ) → e ≤ 38 → 10 ^ e < 2 ^ 128
small_power e near = let g : 10 ^ e ≤ 10 ^ 38 = grows e 38 near in omega (arith, g)
