use Rattle.std.proofs.Common.{subst}
use Rattle.sc_decimal.specs.Number.{Number}
use Rattle.sc_decimal.specs.Literal.{literal_of}
use Rattle.sc_decimal.specs.Numeral.{IsNumeral}
use Rattle.sc_decimal.proofs.Literals.{literal_numeral}
use Rattle.sc_decimal.proofs.number.Dec.push_literal.Goals as goal

pub returns-clause-reads : goal.returns-clause-reads
returns-clause-reads c =
    subst (λ (n : Number). IsNumeral (literal_of n) n) c.self.view_is (literal_numeral (record { neg = c.self.inside.neg; m = c.self.inside.m; e = c.self.inside.e }) c.self.invariant)
