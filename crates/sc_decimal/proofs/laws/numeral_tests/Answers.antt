use Rattle.sc_decimal.proofs.Numerals as numerals
use Rattle.sc_decimal.proofs.laws.numeral_tests.Goals as goal

pub returns-clause-number : goal.returns-clause-number
returns-clause-number c = numerals.numeral_tests

pub returns-clause-numeral : goal.returns-clause-numeral
returns-clause-numeral c = numerals.number_numeral
