use Rattle.std.proofs.Common.{sym}
use Rattle.sc_query.specs.Order.{no_text}
use Rattle.sc_query.proofs.order.place_given.Goals as goal

pub returns-in-Some-clause-place : goal.returns-in-Some-clause-place
returns-in-Some-clause-place c = c.place_in.ensures.place _ (sym c.in-Some.ensures)

pub returns-in-None-clause-place : goal.returns-in-None-clause-place
returns-in-None-clause-place c = λ ne. no_text (sym c.in-None.ensures)
