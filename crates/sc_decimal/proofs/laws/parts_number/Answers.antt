use Rattle.sc_decimal.proofs.Numerals as numerals
use Rattle.sc_decimal.proofs.laws.parts_number.Goals as goal

pub returns : goal.returns
returns c = numerals.parts_number
