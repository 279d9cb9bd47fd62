-- The step of the grid that is nearest to a number.
use Rattle.std.proofs.Common.{◌≡◌, ℕ, ◌+◌, ◌*◌, ◌/◌, ◌%◌, ◌^◌, ◌<◌, ◌≤◌, refl, sym, ap, subst, ◌∙◌, inl, inr, arith, ℤ, pos, ◌-ℤ◌, ◌≤ℤ◌, Option, Some, None}
use Rattle.std.proofs.lemmas.Bool.{cases_lt, lt-leb, le-leb}
use Rattle.std.proofs.lemmas.Int.{ints, clamps}
use Rattle.std.proofs.lemmas.Nat.{div-add-mod', div_below}
use Rattle.std.proofs.Math.Nat.{mul-le-mul}
use Rattle.std.specs.Option.{option_map}
use Rattle.sc_decimal.proofs.Scales.{tens}
use Rattle.sc_decimal.specs.Number.{Number, signed, above, counted_in, size_of}
use Rattle.sc_decimal.specs.Grid.{IsNearest, IsOnGrid, nearest, kept_on_grid, grid_of, value_in, step_in, unit_of, grid_exponent, most_steps, distance}

pub off_grid : (steps : ℕ) → most_steps < steps → None ≡ kept_on_grid steps
off_grid steps h = rw (lt-leb steps most_steps h) refl

-- the quotient of a sum that is less than its divisor
pub no_step : (m unit : ℕ) → 2 * m < unit → (2 * m + unit) / (2 * unit) ≡ 0
no_step m unit h =
    let less : 2 * m + unit < 1 * (2 * unit) = omega arith in
    let b : (2 * m + unit) / (2 * unit) < 1 = div_below (2 * m + unit) (2 * unit) 1 (omega arith) less in
    omega arith

-- one step is the unit
pub whole_step : (v : ℕ) → (2 * v + 1) / (2 * 1) ≡ v
whole_step v = omega arith

-- what the formula gives is nearest
pub rounds : (v u q : ℕ) → 0 < u → q ≡ (2 * v + u) / (2 * u) → (2 * distance (q * u) v ≤ u) × (2 * distance (q * u) v ≡ u → v ≤ q * u)
rounds v u q some is =
    let whole : (2 * v + u) / (2 * u) * (2 * u) + (2 * v + u) % (2 * u) ≡ 2 * v + u = div-add-mod' (2 * v + u) (2 * u) in
    let turned : q * (2 * u) ≡ 2 * (q * u) = omega arith in
    let sum : q * (2 * u) + (2 * v + u) % (2 * u) ≡ 2 * v + u = rw is whole in
    (omega arith, λ e. omega arith)

pub formula_nearest : (n : Number) → IsNearest n (nearest n)
formula_nearest n =
    let r = rounds (value_in n) (step_in n) (nearest n) (tens _) refl in
    record { near = r.0; away = r.1 }

-- two nearest steps are one
pub not_both : (v u a b : ℕ) → 0 < u → a < b → 2 * distance (a * u) v ≤ u → (2 * distance (a * u) v ≡ u → v ≤ a * u) → 2 * distance (b * u) v ≤ u → ⊥
not_both v u a b some less near away near' =
    let apart : (a + 1) * u ≤ b * u = mul-le-mul (omega arith) (omega arith) in
    let one : (a + 1) * u ≡ a * u + u = omega arith in
    omega arith

pub one_nearest : (n : Number) (a b : ℕ) → IsNearest n a → IsNearest n b → a ≡ b
one_nearest n a b p q =
    elim (cases_lt a b) [
      | inl less ↦ absurd (not_both (value_in n) (step_in n) a b (tens _) less p.near p.away q.near)
      | inr other ↦ elim (cases_lt b a) [
        | inl less ↦ absurd (not_both (value_in n) (step_in n) b a (tens _) less q.near q.away p.near)
        | inr same ↦ omega arith
      ]
    ]

pub one_on_grid : (n : Number) (a b : Option ℤ) → IsOnGrid n a → IsOnGrid n b → a ≡ b
one_on_grid n None None p q = refl
one_on_grid n None (Some z) p q = absurd (let e : p.0 ≡ q.0 = one_nearest n p.0 q.0 p.1 q.1 in omega arith)
one_on_grid n (Some y) None p q = absurd (let e : p.0 ≡ q.0 = one_nearest n p.0 q.0 p.1 q.1 in omega arith)
one_on_grid n (Some y) (Some z) p q = ap Some (p.2 ∙ ap (signed n.neg) (one_nearest n p.0 q.0 p.1 q.1) ∙ sym q.2)

-- the formula is on the grid
pub kept : (n : Number) → IsOnGrid n (option_map (signed n.neg) (kept_on_grid (nearest n)))
kept n =
    elim (cases_lt most_steps (nearest n)) [
      | inl far ↦ rw (lt-leb (nearest n) most_steps far) (nearest n, formula_nearest n, far)
      | inr close ↦ rw (le-leb (nearest n) most_steps close) (nearest n, formula_nearest n, refl, close)
    ]

pub grid_is : (n : Number) → IsOnGrid n (grid_of n)
unfolding grid_of
grid_is n = kept n

-- an exponent isn't above itself
pub above_itself : (e : ℤ) → above e e ≡ 0
above_itself e = let z : e -ℤ e ≡ pos 0 = omega (arith, ints) in ap size_of z

-- the formula where the number is whole in steps, and where it isn't
pub nearest_up : (n : Number) → grid_exponent ≤ℤ n.e → nearest n ≡ n.m * 10 ^ above n.e grid_exponent
nearest_up n h =
    let l : unit_of n ≡ grid_exponent = omega (arith, ints, clamps) in
    subst (λ (u : ℤ). (2 * counted_in u n + 10 ^ above grid_exponent u) / (2 * 10 ^ above grid_exponent u) ≡ n.m * 10 ^ above n.e grid_exponent) (sym l) (whole_step (n.m * 10 ^ above n.e grid_exponent))

pub nearest_down : (n : Number) → n.e ≤ℤ grid_exponent → nearest n ≡ (2 * n.m + 10 ^ above grid_exponent n.e) / (2 * 10 ^ above grid_exponent n.e)
nearest_down n h =
    let l : unit_of n ≡ n.e = omega (arith, ints, clamps) in
    let one : n.m * 10 ^ above n.e n.e ≡ n.m = ap (λ (k : ℕ). n.m * 10 ^ k) (above_itself n.e) ∙ omega arith in
    subst (λ (u : ℤ). (2 * counted_in u n + 10 ^ above grid_exponent u) / (2 * 10 ^ above grid_exponent u) ≡ (2 * n.m + 10 ^ above grid_exponent n.e) / (2 * 10 ^ above grid_exponent n.e)) (sym l)
    (ap (λ (v : ℕ). (2 * v + 10 ^ above grid_exponent n.e) / (2 * 10 ^ above grid_exponent n.e)) one)
