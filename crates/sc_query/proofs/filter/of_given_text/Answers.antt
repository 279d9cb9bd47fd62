use Rattle.std.proofs.Common.{sym}
use Rattle.sc_query.specs.Filters.{no_text}
use Rattle.sc_query.proofs.filter.of_given_text.Goals as goal

pub returns-in-Some : goal.returns-in-Some
returns-in-Some c = c.of_text.ensures _ (sym c.in-Some.ensures)

pub returns-in-None : goal.returns-in-None
returns-in-None c = λ ne. no_text (sym c.in-None.ensures)
