use Rattle.std.proofs.Common.{◌≡◌, ◌+◌, ◌-◌, subst, arith, take}
use Rattle.sc_token.proofs.Spread.{IsSpread, spread_start, spread_step}
use Rattle.sc_token.proofs.digits.spread.Goals as goal

pub loop-at-init : goal.loop-at-init
loop-at-init c = spread_start c.args.bytes.now c.args.count c.requires

pub loop-at-preserved : goal.loop-at-preserved
loop-at-preserved c =
    let some = c.loop-at-test.true in
    let down : c.loop-at.at ≡ c.loop-at.at - 1 + 1 = omega (arith, some) in
    spread_step (take c.args.count c.args.bytes.now) c.loop-at.bytes (c.loop-at.at - 1) _ _
    (subst (IsSpread (take c.args.count c.args.bytes.now) c.loop-at.bytes) down c.loop-at.invariant)
    c.digit-in-loop-at.ensures c.digit.ensures
