use Rattle.std.proofs.Common.{◌∙◌}
use Rattle.std.proofs.lemmas.Result.{IfOk-weaker}
use Rattle.sc_shelf.proofs.Touching.{touched_made}
use Rattle.sc_shelf.proofs.touch.touch.Goals as goal

pub returns-in-None : goal.returns-in-None
returns-in-None c = let made = rw c.as_slice.ensures at c.make.ensures in rw c.in-None.is (IfOk-weaker c.make.result _ _ (λ p e. e ∙ touched_made c.args.revision c.args.change.now) made)
