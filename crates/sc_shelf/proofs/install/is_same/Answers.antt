use Rattle.std.proofs.Common.{sym, ◌∙◌}
use Rattle.sc_shelf.proofs.Same.{same_bounds}
use Rattle.sc_shelf.proofs.install.is_same.Goals as goal

pub returns : goal.returns
returns c = λ e. same_bounds c.args.a.now c.args.b.now (sym c.eq.ensures ∙ e)
