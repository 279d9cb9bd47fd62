use Rattle.std.proofs.Common.{◌∙◌}
use Rattle.sc_shelf.proofs.Touching.{kept_all}
use Rattle.sc_shelf.proofs.touch.additions_with.Goals as goal

pub returns : goal.returns
returns c = c.loop-addition.invariant.0 ∙ kept_all c.args.newest c.args.additions.now c.loop-addition.addition-index c.loop-addition-test.false c.loop-addition.invariant.1
