use Rattle.std.proofs.Common.{subst, rules}
use Rattle.sc_decimal.specs.Number.{IsDec}
use Rattle.sc_decimal.proofs.Order.{tests_same}
use Rattle.sc_decimal.proofs.number.DecPartialEq.eq.Goals as goal

pub returns-then-self-other-2-clause-ordered : goal.returns-then-self-other-2-clause-ordered
returns-then-self-other-2-clause-ordered c =
    tests_same c.args.self.now c.args.other.now _ (subst IsDec c.self.view_is c.self.invariant) (subst IsDec c.other.view_is c.other.invariant) (search rules)

pub returns-else-self-other-2-clause-ordered : goal.returns-else-self-other-2-clause-ordered
returns-else-self-other-2-clause-ordered c =
    tests_same c.args.self.now c.args.other.now _ (subst IsDec c.self.view_is c.self.invariant) (subst IsDec c.other.view_is c.other.invariant) (search rules)
