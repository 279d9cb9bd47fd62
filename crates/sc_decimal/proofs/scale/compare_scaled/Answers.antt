use Rattle.std.proofs.Common.{◌*◌, ◌^◌, ◌∙◌, arith, inl, inr}
use Rattle.sc_decimal.proofs.Scales.{zero_order, fewer_digits, is_less, is_greater, aligned_left, aligned_right, aligned_small, factor_small}
use Rattle.sc_decimal.proofs.scale.compare_scaled.Goals as goal

pub returns-then-a-eq0 : goal.returns-then-a-eq0
returns-then-a-eq0 c =
    c.cmp.ensures ∙ zero_order c.args.a c.args.b c.args.i c.args.j (elim c.then-a-eq0.either [ inl e ↦ inl e | inr e ↦ inr e.1 ])

pub returns-then-a_digits-i : goal.returns-then-a_digits-i
returns-then-a_digits-i c =
    let a = c.args.a in let b = c.args.b in let i = c.args.i in let j = c.args.j in
    is_less (a * 10 ^ i) (b * 10 ^ j) (fewer_digits a b i j c.ilog10-a_digits.result c.ilog10-b_digits.result c.ilog10-a_digits.ensures.next_power_gt c.ilog10-b_digits.ensures.power_le c.if-a_digits-i.true)

pub returns-then-b_digits-j : goal.returns-then-b_digits-j
returns-then-b_digits-j c =
    let a = c.args.a in let b = c.args.b in let i = c.args.i in let j = c.args.j in
    is_greater (a * 10 ^ i) (b * 10 ^ j) (fewer_digits b a j i c.ilog10-b_digits.result c.ilog10-a_digits.result c.ilog10-b_digits.ensures.next_power_gt c.ilog10-a_digits.ensures.power_le c.if-b_digits-j.true)

pub pow-requires : goal.pow-requires
pow-requires c = factor_small c.args.b c.args.i c.args.j c.ilog10-a_digits.result c.ilog10-b_digits.result c.requires.b_digits c.ilog10-b_digits.ensures.power_le (omega arith) c.if-i-j.true

pub overflow_mul-a : goal.overflow_mul-a
overflow_mul-a c =
    let small = aligned_small c.args.a c.args.b c.args.i c.args.j c.ilog10-a_digits.result c.ilog10-b_digits.result c.ilog10-a_digits.ensures.next_power_gt c.requires.b_digits c.ilog10-b_digits.ensures.power_le (omega arith) c.if-i-j.true in
    rw c.pow.ensures (omega (arith, small))

pub pow-requires-else-i-j : goal.pow-requires-else-i-j
pow-requires-else-i-j c = factor_small c.args.a c.args.j c.args.i c.ilog10-b_digits.result c.ilog10-a_digits.result c.requires.a_digits c.ilog10-a_digits.ensures.power_le (omega arith) (omega arith)

pub overflow_mul-b : goal.overflow_mul-b
overflow_mul-b c =
    let small = aligned_small c.args.b c.args.a c.args.j c.args.i c.ilog10-b_digits.result c.ilog10-a_digits.result c.ilog10-b_digits.ensures.next_power_gt c.requires.a_digits c.ilog10-a_digits.ensures.power_le (omega arith) (omega arith) in
    rw c.pow-else-i-j.ensures (omega (arith, small))

pub returns-then-i-j : goal.returns-then-i-j
returns-then-i-j c =
    c.cmp-then-i-j.ensures ∙ rw c.pow.ensures (aligned_left c.args.a c.args.b c.args.i c.args.j c.if-i-j.true)

pub returns-else-i-j : goal.returns-else-i-j
returns-else-i-j c =
    c.cmp-else-i-j.ensures ∙ rw c.pow-else-i-j.ensures (aligned_right c.args.a c.args.b c.args.i c.args.j (omega arith))
