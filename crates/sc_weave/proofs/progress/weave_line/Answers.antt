use Rattle.std.proofs.Common.{◌+◌, length, Err, subst, ap}
use Rattle.sc_outside.specs.Lines.{without_feed}
use Rattle.sc_script.specs.Step.{Answers}
use Rattle.sc_weave.proofs.Following.{past_limit, no_step}
use Rattle.sc_weave.proofs.Taking.{told_more}
use Rattle.sc_weave.proofs.progress.weave_line.Goals as goal

pub returns-then-is_past-clause-bad : goal.returns-then-is_past-clause-bad
returns-then-is_past-clause-bad g c = λ start now lines h e. past_limit _ _ _ _ _ h.woven _ c.if-is_past.ensures

pub returns-in-Err-clause-bad : goal.returns-in-Err-clause-bad
returns-in-Err-clause-bad g c = λ start now lines h e.
    no_step _ _ _ _ _ h.woven _ (subst (λ f. Answers (without_feed c.args.line.now) (Err f)) e (subst (λ line. Answers line (Err c.in-Err.fault)) c.line_without_feed.ensures c.in-Err.ensures.answer))

pub returns-clause-ok : goal.returns-clause-ok
returns-clause-ok g c = λ start now lines h.
    let t = c.in_ok-take_step.ensures.taken in
    let limits = c.if-is_past.ensures in
    told_more start now _ _ lines _ _ t.0 h (rw c.line_without_feed.ensures at c.in-Ok.ensures.answer) t.1 t.2 (ap (λ n. n + 1) c.take_step.ensures.count) (ap (λ n. n + length c.args.line.now) c.take_step.ensures.read) limits.0 limits.1
