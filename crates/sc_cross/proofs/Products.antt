-- Products of whole numbers: their signs, and the cross product taken from the position.
use Rattle.std.proofs.Common.{◌≡◌, ap, arith, ℕ, zero, suc, ◌+◌, ◌*◌, ℤ, pos, negsuc, ◌-ℤ◌, ◌+ℤ◌, ◌*ℤ◌, ◌<ℤ◌, ◌≤ℤ◌}
use Rattle.std.proofs.lemmas.Int.{ints}
use Rattle.std.proofs.Math.IntN.{*ℤ_comm}
use borrow.Author.Differences.{up, down}

distrib_left : (a b c : ℤ) → (a -ℤ b) *ℤ c +ℤ b *ℤ c ≡ a *ℤ c
distrib_left a b c =
    let e : up (a -ℤ b) + down a + up b ≡ down (a -ℤ b) + up a + down b = omega (arith, ints) in
    omega (arith, ints, ap (λ (n : ℕ). n * up c) e, ap (λ (n : ℕ). n * down c) e)

distrib_right : (a b c : ℤ) → a *ℤ (b -ℤ c) +ℤ a *ℤ c ≡ a *ℤ b
distrib_right a b c =
    let e : up (b -ℤ c) + down b + up c ≡ down (b -ℤ c) + up b + down c = omega (arith, ints) in
    omega (arith, ints, ap (λ (n : ℕ). up a * n) e, ap (λ (n : ℕ). down a * n) e)

-- the linear part of the next
from_parts : (whole left right ac ad bc bd : ℤ) → whole +ℤ right ≡ left → left +ℤ ad ≡ ac → right +ℤ bd ≡ bc → whole +ℤ (ad +ℤ bc) ≡ ac +ℤ bd
from_parts whole left right ac ad bc bd e f g = omega (arith, ints)

expand : (a b c d : ℤ) → (a -ℤ b) *ℤ (c -ℤ d) +ℤ (a *ℤ d +ℤ b *ℤ c) ≡ a *ℤ c +ℤ b *ℤ d
expand a b c d =
    from_parts _ (a *ℤ (c -ℤ d)) (b *ℤ (c -ℤ d)) (a *ℤ c) (a *ℤ d) (b *ℤ c) (b *ℤ d)
    (distrib_left a b (c -ℤ d)) (distrib_right a c d) (distrib_right b c d)

-- the linear part of the next
same_sum : (s t u v tx_py tx_fy fx_py fx_fy ty_px ty_fx fy_px px_py px_fy : ℤ) →
    s +ℤ (tx_fy +ℤ fx_py) ≡ tx_py +ℤ fx_fy →
    t +ℤ (ty_fx +ℤ fy_px) ≡ ty_px +ℤ fx_fy →
    u +ℤ (tx_fy +ℤ px_py) ≡ tx_py +ℤ px_fy →
    v +ℤ (ty_px +ℤ fx_py) ≡ ty_fx +ℤ px_py →
    px_fy ≡ fy_px →
    s -ℤ t ≡ u +ℤ v
same_sum s t u v tx_py tx_fy fx_py fx_fy ty_px ty_fx fy_px px_py px_fy e f g h k = omega (arith, ints)

mul_pos : (a b : ℤ) → pos 0 <ℤ a → pos 0 <ℤ b → pos 0 <ℤ (a *ℤ b)
mul_pos (pos zero) b h k = absurd (omega (arith, ints))
mul_pos (pos (suc m)) (pos zero) h k = absurd (omega (arith, ints))
mul_pos (pos (suc m)) (pos (suc n)) h k = omega (arith, ints)
mul_pos (pos (suc m)) (negsuc n) h k = absurd (omega (arith, ints))
mul_pos (negsuc m) b h k = absurd (omega (arith, ints))

mul_at_least : (a b : ℤ) → pos 0 ≤ℤ a → pos 0 ≤ℤ b → pos 0 ≤ℤ (a *ℤ b)
mul_at_least (pos m) (pos n) h k = omega (arith, ints)
mul_at_least (pos m) (negsuc n) h k = absurd (omega (arith, ints))
mul_at_least (negsuc m) b h k = absurd (omega (arith, ints))

mul_at_most : (a b : ℤ) → a ≤ℤ pos 0 → pos 0 ≤ℤ b → (a *ℤ b) ≤ℤ pos 0
mul_at_most (pos zero) (pos n) h k = omega (arith, ints)
mul_at_most (pos (suc m)) b h k = absurd (omega (arith, ints))
mul_at_most (negsuc m) (pos n) h k = omega (arith, ints)
mul_at_most a (negsuc n) h k = absurd (omega (arith, ints))

both_at_most : (a b : ℤ) → a ≤ℤ pos 0 → b ≤ℤ pos 0 → (a +ℤ b) ≤ℤ pos 0
both_at_most a b h k = omega (arith, ints)

one_above : (a b : ℤ) → pos 0 ≤ℤ a → pos 0 <ℤ b → pos 0 <ℤ (a +ℤ b)
one_above a b h k = omega (arith, ints)

-- the cross product of the way from (fx, fy) to (tx, ty) and of that to (px, py), by what lies between each end and the position
pub from_position : (fx fy tx ty px py : ℤ) →
    ((tx -ℤ fx) *ℤ (py -ℤ fy)) -ℤ ((ty -ℤ fy) *ℤ (px -ℤ fx)) ≡ ((tx -ℤ px) *ℤ (py -ℤ fy)) +ℤ ((ty -ℤ py) *ℤ (fx -ℤ px))
from_position fx fy tx ty px py =
    let flipped : fx *ℤ fy ≡ fy *ℤ fx = *ℤ_comm fx fy in
    let far : ty *ℤ px ≡ px *ℤ ty = *ℤ_comm ty px in
    same_sum _ _ _ _ (tx *ℤ py) (tx *ℤ fy) (fx *ℤ py) (fx *ℤ fy) (ty *ℤ px) (ty *ℤ fx) (fy *ℤ px) (px *ℤ py) (px *ℤ fy)
    (expand tx fx py fy)
    (rw flipped (expand ty fy px fx))
    (expand tx px py fy)
    (rw (*ℤ_comm px py, *ℤ_comm fx py) (expand ty py fx px))
    (*ℤ_comm px fy)

-- a position east of both ends of a way north is not to its left
pub right_of : (fx fy tx ty px py : ℤ) → tx ≤ℤ px → fx ≤ℤ px → fy ≤ℤ py → py <ℤ ty →
    (((tx -ℤ fx) *ℤ (py -ℤ fy)) -ℤ ((ty -ℤ fy) *ℤ (px -ℤ fx))) ≤ℤ pos 0
right_of fx fy tx ty px py a b c d =
    let first : ((tx -ℤ px) *ℤ (py -ℤ fy)) ≤ℤ pos 0 = mul_at_most (tx -ℤ px) (py -ℤ fy) (omega (arith, ints)) (omega (arith, ints)) in
    let second : ((fx -ℤ px) *ℤ (ty -ℤ py)) ≤ℤ pos 0 = mul_at_most (fx -ℤ px) (ty -ℤ py) (omega (arith, ints)) (omega (arith, ints)) in
    rw (from_position fx fy tx ty px py) (both_at_most _ _ first (rw *ℤ_comm at second))

-- one that is west of both is
pub left_of : (fx fy tx ty px py : ℤ) → px <ℤ tx → px <ℤ fx → fy ≤ℤ py → py <ℤ ty →
    pos 0 <ℤ (((tx -ℤ fx) *ℤ (py -ℤ fy)) -ℤ ((ty -ℤ fy) *ℤ (px -ℤ fx)))
left_of fx fy tx ty px py a b c d =
    let first : pos 0 ≤ℤ ((tx -ℤ px) *ℤ (py -ℤ fy)) = mul_at_least (tx -ℤ px) (py -ℤ fy) (omega (arith, ints)) (omega (arith, ints)) in
    let second : pos 0 <ℤ ((ty -ℤ py) *ℤ (fx -ℤ px)) = mul_pos (ty -ℤ py) (fx -ℤ px) (omega (arith, ints)) (omega (arith, ints)) in
    rw (from_position fx fy tx ty px py) (one_above _ _ first second)
