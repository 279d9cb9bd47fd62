use Rattle.sc_decimal.proofs.Integers.{told_equal, equal_told}
use Rattle.sc_decimal.proofs.laws.whole_numbers.Goals as goal

pub returns-clause-equal : goal.returns-clause-equal
returns-clause-equal c = λ n i d e. told_equal n i e

pub returns-clause-only : goal.returns-clause-only
returns-clause-only c = equal_told

pub returns-clause-back : goal.returns-clause-back
returns-clause-back c = λ n i fits h. equal_told n i h.0 fits h.1
