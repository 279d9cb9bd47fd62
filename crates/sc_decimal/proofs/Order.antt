-- The order of numbers, in whatever power of ten they are counted.
use Rattle.std.proofs.Common.{zero, suc, ◌≡◌, ℕ, ◌+◌, ◌-◌, ◌*◌, ◌%◌, ◌^◌, ◌<◌, ◌≤◌, refl, sym, ap, subst, ◌∙◌, ◌↔◌, ◌⊎◌, inl, inr, arith, ℤ, pos, negsuc, ◌-ℤ◌, ◌≤ℤ◌, ◌<ℤ◌, neg_ℤ, Bool, true, false, Ordering, Less, Equal, Greater}
use Rattle.std.proofs.lemmas.Int.{ints, clamps, by_lt_z}
use Rattle.std.proofs.lemmas.Bool.Decides.{nat_tests}
use Rattle.std.proofs.lemmas.Nat.{pow-add}
use Rattle.std.proofs.Math.Nat.{mul_assoc, mul-le-mul}
use Rattle.std.proofs.lemmas.Bool.{cases_lt}
use Rattle.std.specs.Ordering.{nat_cmp, int_cmp, MatchOrdering, is_eq, eq_by_cmp}
use Rattle.std.specs.Cmp.{int_ranks, int_cmp_is, both_ways, Equal-is}
use Rattle.sc_decimal.proofs.Nearest.{above_itself}
use Rattle.sc_decimal.proofs.Scales.{scaled_order, tens, is_less, is_greater}
use Rattle.sc_decimal.specs.Number.{Number, signed, size_of, above, counted_in, number_in, lesser_exponent, order_of, least_exponent, in_least, dec_cmp, IsNormal, IsDec, zero_number}

-- whole numbers with signs by magnitudes: which is compared with which
abbrev pub first_of : Bool → Bool → ℕ → ℕ → ℕ
first_of false false x y = x
first_of false true x y = x + y
first_of true false x y = 0
first_of true true x y = y

abbrev pub second_of : Bool → Bool → ℕ → ℕ → ℕ
second_of false false x y = y
second_of false true x y = 0
second_of true false x y = x + y
second_of true true x y = x

order_positive : (x y : ℕ) → int_cmp (pos x) (pos y) ≡ nat_cmp x y
order_positive x y = grind (arith, nat_tests)

order_negative : (x y : ℕ) → int_cmp (neg_ℤ (pos x)) (neg_ℤ (pos y)) ≡ nat_cmp y x
order_negative zero zero = refl
order_negative zero (suc y) = grind (arith, nat_tests)
order_negative (suc x) zero = grind (arith, nat_tests)
order_negative (suc x) (suc y) = grind (arith, nat_tests)

order_mixed : (x y : ℕ) → int_cmp (pos x) (neg_ℤ (pos y)) ≡ nat_cmp (x + y) 0
order_mixed zero zero = refl
order_mixed (suc x) zero = grind (arith, nat_tests)
order_mixed x (suc y) = grind (arith, nat_tests)

order_mixed_back : (x y : ℕ) → int_cmp (neg_ℤ (pos x)) (pos y) ≡ nat_cmp 0 (x + y)
order_mixed_back zero zero = refl
order_mixed_back zero (suc y) = grind (arith, nat_tests)
order_mixed_back (suc x) y = grind (arith, nat_tests)

pub by_magnitudes : (s t : Bool) (x y : ℕ) → int_cmp (signed s x) (signed t y) ≡ nat_cmp (first_of s t x y) (second_of s t x y)
by_magnitudes false false x y = order_positive x y
by_magnitudes false true x y = order_mixed x y
by_magnitudes true false x y = order_mixed_back x y
by_magnitudes true true x y = order_negative x y

scaled_first : (s t : Bool) (x y p : ℕ) → first_of s t (x * p) (y * p) ≡ first_of s t x y * p
scaled_first false false x y p = refl
scaled_first false true x y p = omega arith
scaled_first true false x y p = omega arith
scaled_first true true x y p = refl

scaled_second : (s t : Bool) (x y p : ℕ) → second_of s t (x * p) (y * p) ≡ second_of s t x y * p
scaled_second false false x y p = refl
scaled_second false true x y p = omega arith
scaled_second true false x y p = omega arith
scaled_second true true x y p = refl

-- a factor changes no order
pub scaled_signed : (s t : Bool) (x y k : ℕ) → int_cmp (signed s (x * 10 ^ k)) (signed t (y * 10 ^ k)) ≡ int_cmp (signed s x) (signed t y)
scaled_signed s t x y k =
    by_magnitudes s t (x * 10 ^ k) (y * 10 ^ k)
    ∙ ap (λ (n : ℕ). nat_cmp n (second_of s t (x * 10 ^ k) (y * 10 ^ k))) (scaled_first s t x y (10 ^ k))
    ∙ ap (nat_cmp (first_of s t x y * 10 ^ k)) (scaled_second s t x y (10 ^ k))
    ∙ scaled_order (first_of s t x y) (second_of s t x y) k
    ∙ sym (by_magnitudes s t x y)

-- ---- exponents

pub size_is : (z : ℤ) → pos 0 ≤ℤ z → pos (size_of z) ≡ z
size_is (pos n) h = refl
size_is (negsuc n) h = absurd (omega (arith, ints))

pub above_is : (e l : ℤ) → l ≤ℤ e → pos (above e l) ≡ e -ℤ l
above_is e l h = size_is (e -ℤ l) (omega (arith, ints))

pub above_adds : (e u l : ℤ) → u ≤ℤ e → l ≤ℤ u → above e l ≡ above e u + above u l
above_adds e u l h k =
    let p = above_is e u h in let q = above_is u l k in
    let whole : l ≤ℤ e = omega (arith, ints) in
    let r = above_is e l whole in
    omega (arith, ints)

pub counted_lower : (n : Number) (u l : ℤ) → u ≤ℤ n.e → l ≤ℤ u → counted_in l n ≡ counted_in u n * 10 ^ above u l
counted_lower n u l h k =
    ap (λ (x : ℕ). n.m * 10 ^ x) (above_adds n.e u l h k)
    ∙ ap (λ (x : ℕ). n.m * x) (pow-add 10 (above n.e u) (above u l))
    ∙ sym (mul_assoc n.m (10 ^ above n.e u) (10 ^ above u l))

pub lower_same : (a b : Number) (u l : ℤ) → u ≤ℤ a.e → u ≤ℤ b.e → l ≤ℤ u → int_cmp (number_in l a) (number_in l b) ≡ int_cmp (number_in u a) (number_in u b)
lower_same a b u l h k le =
    ap (λ (x : ℕ). int_cmp (signed a.neg x) (number_in l b)) (counted_lower a u l h le)
    ∙ ap (λ (x : ℕ). int_cmp (signed a.neg (counted_in u a * 10 ^ above u l)) (signed b.neg x)) (counted_lower b u l k le)
    ∙ scaled_signed a.neg b.neg (counted_in u a) (counted_in u b) (above u l)

-- the order is that in any unit in which both are whole
pub order_at : (a b : Number) (l : ℤ) → l ≤ℤ a.e → l ≤ℤ b.e → order_of a b ≡ int_cmp (number_in l a) (number_in l b)
unfolding order_of
order_at a b l h k = sym (lower_same a b (lesser_exponent a b) l (omega (arith, ints, clamps)) (omega (arith, ints, clamps)) (omega (arith, ints, clamps)))

pub orders_same : (a b : Number) → least_exponent ≤ℤ a.e → least_exponent ≤ℤ b.e → dec_cmp a b ≡ order_of a b
unfolding in_least
orders_same a b h k = sym (order_at a b least_exponent h k)

-- ---- two numbers by their signs

-- a number with a sign isn't zero
pub some_negative : (n : Number) → IsNormal n → n.neg ≡ true → 0 < n.m
some_negative n h neg =
    elim (cases_lt 0 n.m) [
      | inl some ↦ some
      | inr none ↦ (let e : n ≡ zero_number = h.trimmed (omega arith) in let f : n.neg ≡ false = ap (λ (x : Number). x.neg) e in absurd cc)
    ]

pub in_order : (a b : Number) (r : Ordering) → IsDec a → IsDec b → r ≡ dec_cmp a b → (r ≡ order_of a b) × (r ≡ dec_cmp a b)
in_order a b r p q e = (e ∙ orders_same a b p.narrow.low q.narrow.low, e)

in_units : (a b : Number) (s t : Bool) (r : Ordering) → IsDec a → IsDec b → a.neg ≡ s → b.neg ≡ t → r ≡ int_cmp (signed s (counted_in least_exponent a)) (signed t (counted_in least_exponent b)) → (r ≡ order_of a b) × (r ≡ dec_cmp a b)
unfolding in_least
in_units a b s t r p q e f h =
    in_order a b r p q (h ∙ ap (λ (x : Bool). int_cmp (signed x (counted_in least_exponent a)) (signed t (counted_in least_exponent b))) (sym e) ∙ ap (λ (x : Bool). int_cmp (number_in least_exponent a) (signed x (counted_in least_exponent b))) (sym f))

pub both_positive : (a b : Number) (r : Ordering) → IsDec a → IsDec b → a.neg ≡ false → b.neg ≡ false → r ≡ nat_cmp (counted_in least_exponent a) (counted_in least_exponent b) → (r ≡ order_of a b) × (r ≡ dec_cmp a b)
both_positive a b r p q e f h = in_units a b false false r p q e f (h ∙ sym (order_positive (counted_in least_exponent a) (counted_in least_exponent b)))

pub both_negative : (a b : Number) (r : Ordering) → IsDec a → IsDec b → a.neg ≡ true → b.neg ≡ true → r ≡ nat_cmp (counted_in least_exponent b) (counted_in least_exponent a) → (r ≡ order_of a b) × (r ≡ dec_cmp a b)
both_negative a b r p q e f h = in_units a b true true r p q e f (h ∙ sym (order_negative (counted_in least_exponent a) (counted_in least_exponent b)))

pub counted_some : (l : ℤ) (n : Number) → 0 < n.m → 0 < counted_in l n
counted_some l n some = let h : 1 * 1 ≤ n.m * 10 ^ above n.e l = mul-le-mul {n₁ = 1} some (tens (above n.e l)) in omega (arith, h)

pub only_second : (a b : Number) → IsDec a → IsDec b → a.neg ≡ false → b.neg ≡ true → (Greater ≡ order_of a b) × (Greater ≡ dec_cmp a b)
only_second a b p q e f =
    let some : 0 < counted_in least_exponent b = counted_some least_exponent b (some_negative b q.normal f) in
    in_units a b false true Greater p q e f (sym (order_mixed (counted_in least_exponent a) (counted_in least_exponent b) ∙ sym (is_greater (counted_in least_exponent a + counted_in least_exponent b) 0 (omega arith))))

pub only_first : (a b : Number) → IsDec a → IsDec b → a.neg ≡ true → b.neg ≡ false → (Less ≡ order_of a b) × (Less ≡ dec_cmp a b)
only_first a b p q e f =
    let some : 0 < counted_in least_exponent a = counted_some least_exponent a (some_negative a p.normal e) in
    in_units a b true false Less p q e f (sym (order_mixed_back (counted_in least_exponent a) (counted_in least_exponent b) ∙ sym (is_less 0 (counted_in least_exponent a + counted_in least_exponent b) (omega arith))))

pub seen_as : (a a' b b' : Number) (r : Ordering) → a ≡ a' → b ≡ b' → ((r ≡ order_of a b) × (r ≡ dec_cmp a b)) → (r ≡ order_of a' b') × (r ≡ dec_cmp a' b')
seen_as a a' b b' r e f h =
    subst (λ (x : Number). (r ≡ order_of x b') × (r ≡ dec_cmp x b')) e (subst (λ (y : Number). (r ≡ order_of a y) × (r ≡ dec_cmp a y)) f h)

-- ---- one form for each number

pub signed_same : (s t : Bool) (x y : ℕ) → signed s x ≡ signed t y → 0 < x → (s ≡ t) × (x ≡ y)
signed_same false false x y e some = (refl, omega (arith, ints))
signed_same false true x zero e some = absurd (omega (arith, ints))
signed_same false true x (suc y) e some = absurd (omega (arith, ints))
signed_same true false zero y e some = absurd (omega (arith, ints))
signed_same true false (suc x) y e some = absurd (omega (arith, ints))
signed_same true true zero y e some = absurd (omega arith)
signed_same true true (suc x) zero e some = absurd (omega (arith, ints))
signed_same true true (suc x) (suc y) e some = (refl, omega (arith, ints))

pub int_equal : (x y : ℤ) → int_cmp x y ≡ Equal → x ≡ y
int_equal x y e = subst (λ (r : Ordering). MatchOrdering r (x <ℤ y) (x ≡ y) (y <ℤ x)) e (int_ranks x y)

pub equal_int : (x y : ℤ) → x ≡ y → int_cmp x y ≡ Equal
equal_int x y e = sym (int_cmp_is x y Equal e)

-- a multiple of ten isn't normal
pub ten_divides : (x k : ℕ) → 0 < k → (x * 10 ^ k) % 10 ≡ 0
ten_divides x k some =
    let up : k ≡ (k - 1) + 1 = omega arith in
    let e : x * 10 ^ k ≡ x * 10 ^ (k - 1) * 10 = ap (λ (n : ℕ). x * 10 ^ n) up ∙ ap (λ (n : ℕ). x * n) (pow-add 10 (k - 1) 1) ∙ sym (mul_assoc x (10 ^ (k - 1)) 10) in
    omega (arith, e)

counted_none : (l : ℤ) (n : Number) → counted_in l n ≡ 0 → n.m ≡ 0
counted_none l n e =
    elim (cases_lt 0 n.m) [
      | inl some ↦ (let h : 0 < counted_in l n = counted_some l n some in absurd (omega arith))
      | inr none ↦ omega arith
    ]

pub zero_is : (n : Number) → IsNormal n → n.m ≡ 0 → n ≡ zero_number
zero_is n h e = h.trimmed (omega arith)

-- where one exponent isn't above the other
normal_below : (a b : Number) → IsNormal a → IsNormal b → a.e ≤ℤ b.e → number_in a.e a ≡ number_in a.e b → a ≡ b
normal_below a b p q le e =
    elim (cases_lt 0 a.m) [
      | inl some ↦
          (let same = signed_same a.neg b.neg (counted_in a.e a) (counted_in a.e b) e (counted_some a.e a some) in
          let itself : a.m * 10 ^ above a.e a.e ≡ a.m = ap (λ (k : ℕ). a.m * 10 ^ k) (above_itself a.e) ∙ omega arith in
          elim (cases_lt 0 (above b.e a.e)) [
            | inl up ↦ absurd (
                let t : (b.m * 10 ^ above b.e a.e) % 10 ≡ 0 = ten_divides b.m (above b.e a.e) up in
                let m : a.m % 10 ≡ 0 = ap (λ (n : ℕ). n % 10) (sym itself ∙ same.1) ∙ t in
                let z : a.m ≡ 0 = ap (λ (n : Number). n.m) (p.trimmed m) in
                omega arith)
            | inr level ↦
                (let k : above b.e a.e ≡ 0 = omega arith in
                let f = above_is b.e a.e le in
                let ee : a.e ≡ b.e = omega (arith, ints) in
                let m : a.m ≡ b.m = sym itself ∙ same.1 ∙ ap (λ (n : ℕ). b.m * 10 ^ n) k ∙ omega arith in
                number_same a b same.0 m ee)
          ])
      | inr none ↦
          (let m : a.m ≡ 0 = omega arith in
          let az : counted_in a.e a ≡ 0 = ap (λ (n : ℕ). n * 10 ^ above a.e a.e) m ∙ omega arith in
          let bz : number_in a.e b ≡ pos 0 = sym e ∙ ap (signed a.neg) az ∙ signed_zero a.neg in
          let bm : b.m ≡ 0 = counted_none a.e b (signed_none b.neg (counted_in a.e b) bz) in
          zero_is a p m ∙ sym (zero_is b q bm))
    ]
  where
    number_same : (a b : Number) → a.neg ≡ b.neg → a.m ≡ b.m → a.e ≡ b.e → a ≡ b
    number_same a b e f g = λ i. record { neg = e i; m = f i; e = g i }

    signed_zero : (s : Bool) → signed s 0 ≡ pos 0
    signed_zero false = refl
    signed_zero true = refl

    signed_none : (s : Bool) (x : ℕ) → signed s x ≡ pos 0 → x ≡ 0
    signed_none false x e = omega (arith, ints)
    signed_none true zero e = refl
    signed_none true (suc x) e = absurd (omega (arith, ints))

-- two normal numbers that are equal are the same
pub normal_same : (a b : Number) → IsNormal a → IsNormal b → order_of a b ≡ Equal → a ≡ b
normal_same a b p q e =
    elim (le_total a.e b.e) [
      | inl h ↦ normal_below a b p q h (int_equal (number_in a.e a) (number_in a.e b) (sym (order_at a b a.e (omega (arith, ints)) h) ∙ e))
      | inr h ↦ sym (normal_below b a q p h (sym (int_equal (number_in b.e a) (number_in b.e b) (sym (order_at a b b.e h (omega (arith, ints))) ∙ e))))
    ]
  where
    le_total : (x y : ℤ) → (x ≤ℤ y) ⊎ (y ≤ℤ x)
    le_total x y = by_lt_z {P = (x ≤ℤ y) ⊎ (y ≤ℤ x)} x y (λ h. inl (omega (arith, ints))) (λ h. inr h)

-- ---- kept numbers

pub equal_same : (a b : Number) → IsDec a → IsDec b → dec_cmp a b ≡ Equal → a ≡ b
equal_same a b p q e = normal_same a b p.normal q.normal (sym (orders_same a b p.narrow.low q.narrow.low) ∙ e)

pub same_equal : (a b : Number) → a ≡ b → dec_cmp a b ≡ Equal
same_equal a b e = equal_int (in_least a) (in_least b) (ap in_least e)

-- a test that tells whether two are the same
pub tests_same : (a b : Number) (r : Bool) → IsDec a → IsDec b → (r ≡ true) ↔ (a ≡ b) → r ≡ eq_by_cmp dec_cmp a b
tests_same a b r p q h =
    both_ways r (eq_by_cmp dec_cmp a b) (λ e. ap is_eq (same_equal a b (h.0 e))) (λ e. h.1 (equal_same a b p q ((Equal-is (dec_cmp a b)).0 e)))
