use Rattle.sc_decimal.proofs.Runs.{answers}
use Rattle.sc_decimal.proofs.Numerals.{reads}
use Rattle.sc_decimal.proofs.number.Dec.read.Goals as goal

pub returns-clause-numeral : goal.returns-clause-numeral
returns-clause-numeral c = reads c.args.text.now c.read.result c.read.ensures

pub returns-clause-answer : goal.returns-clause-answer
returns-clause-answer c = answers c.args.text.now c.read.result c.read.ensures
