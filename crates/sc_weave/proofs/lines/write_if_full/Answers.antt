use Rattle.sc_weave.proofs.Stopping.{writes_more}
use Rattle.sc_weave.proofs.lines.write_if_full.Goals as goal

pub returns-in-Err-clause-stops : goal.returns-in-Err-clause-stops
returns-in-Err-clause-stops g c = λ start lines rest h. writes_more lines rest start _ (c.in-Err.ensures.err start lines h)
