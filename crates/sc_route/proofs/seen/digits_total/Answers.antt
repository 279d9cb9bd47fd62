use Rattle.std.proofs.Common.{arith, sym}
use Rattle.sc_route.proofs.Digits.{digits_step, all_step}
use Rattle.sc_route.proofs.seen.digits_total.Goals as goal

pub digits-preserved : goal.digits-preserved
digits-preserved c = record {
  total = digits_step _ _ _ _ _ _ _ _ c.in-Some.ensures.cases.0 c.from.ensures c.min-total.ensures (sym c.if-not-is_ascii_digit.ensures.value) c.digits.invariant.total;
  all = all_step _ _ _ _ c.in-Some.ensures.cases.0 (sym c.if-not-is_ascii_digit.ensures.value) c.digits.invariant.all;
  small = omega (arith, c.min-total.ensures);
}
