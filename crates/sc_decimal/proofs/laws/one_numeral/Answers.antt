use Rattle.sc_decimal.proofs.Numerals as numerals
use Rattle.sc_decimal.proofs.laws.one_numeral.Goals as goal

pub returns : goal.returns
returns c = numerals.one_numeral
