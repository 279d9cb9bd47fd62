use Rattle.std.proofs.Common.{ap, ◌∙◌, not}
use Rattle.sc_decimal.specs.Literal.{literal_of}
use Rattle.sc_decimal.proofs.Literals.{literal_numeral}
use Rattle.sc_decimal.proofs.Numerals.{narrow_test, numeral_tests}
use Rattle.sc_cqlback.proofs.Coordinates.{coordinate_read}
use Rattle.sc_cqlback.proofs.Instants.{moment_read}
use Rattle.sc_cqlback.proofs.laws.values_are_read.Goals as goal

pub returns-clause-moments : goal.returns-clause-moments
returns-clause-moments c = moment_read

pub returns-clause-numbers : goal.returns-clause-numbers
returns-clause-numbers c = λ n is. let told = numeral_tests (literal_of n) n (literal_numeral n is) in (told.2 ∙ ap not (narrow_test n is.narrow), told.1)

pub returns-clause-coordinates : goal.returns-clause-coordinates
returns-clause-coordinates c = coordinate_read
