use Rattle.std.proofs.Common.{sym, ◌∙◌}
use Rattle.sc_cqlread.proofs.Answered.{drawn_is}
use Rattle.sc_cqlread.proofs.reading.drawn.Goals as goal

pub returns-in_ok-finish-in-None-clause-drawn : goal.returns-in_ok-finish-in-None-clause-drawn
returns-in_ok-finish-in-None-clause-drawn c = λ r h word wide.
    let done = c.in_ok-finish-in-None.ensures r.drawing h in
    drawn_is r c.in_ok-finish-in-None.field-0 (c.if-is_bad.ensures r.drawing h) (sym wide ∙ c.in-None.is) done.0.same
