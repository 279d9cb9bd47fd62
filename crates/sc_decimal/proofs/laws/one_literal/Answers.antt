use Rattle.sc_decimal.proofs.Literals as literals
use Rattle.sc_decimal.proofs.laws.one_literal.Goals as goal

pub returns-clause-reads : goal.returns-clause-reads
returns-clause-reads c = literals.literal_numeral

pub returns-clause-same : goal.returns-clause-same
returns-clause-same c = literals.one_literal
