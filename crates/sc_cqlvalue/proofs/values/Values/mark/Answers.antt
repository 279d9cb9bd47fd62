use Rattle.std.proofs.Common.{subst, sym}
use Rattle.sc_cqlvalue.specs.Formed.{AreFormed}
use Rattle.sc_cqlvalue.proofs.Forming.{does_keeps}
use Rattle.sc_cqlvalue.proofs.values.Values.mark.Goals as goal

pub invariant_of-self : goal.invariant_of-self
invariant_of-self c = subst AreFormed (sym c.in-Ok.ensures) (does_keeps c.args.text.now c.args.mark c.self.inside.state c.self.invariant)
