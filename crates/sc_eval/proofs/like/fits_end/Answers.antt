use Rattle.std.proofs.Common.{sym, ◌∙◌}
use Rattle.sc_eval.proofs.Places.{run_of_nothing}
use Rattle.sc_eval.proofs.like.fits_end.Goals as goal

pub returns-then-is_empty : goal.returns-then-is_empty
returns-then-is_empty c = run_of_nothing _ _ (sym c.is_empty.ensures ∙ c.if-is_empty.true)
