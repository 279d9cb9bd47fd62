use Rattle.std.proofs.Common.{◌∷◌}
use Rattle.sc_weave.proofs.Stopping.{stops_at_line, writes_more}
use Rattle.sc_weave.proofs.writing.end_at_line.Goals as goal

pub returns-in-Ok-clause-stops : goal.returns-in-Ok-clause-stops
returns-in-Ok-clause-stops g c = λ start lines rest line h bad.
    stops_at_line lines rest line _ _ start _ _ c.saturating_add-line.ensures h.woven.count_is h.woven.few (c.in-Ok.ensures.ok start lines h) bad

pub returns-in-Err-clause-stops : goal.returns-in-Err-clause-stops
returns-in-Err-clause-stops g c = λ start lines rest line h bad. writes_more lines (line ∷ rest) start _ (c.in-Err.ensures.err start lines h)
