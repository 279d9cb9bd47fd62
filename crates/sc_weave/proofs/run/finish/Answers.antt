use Rattle.std.proofs.Common.{true, sym, subst}
use Rattle.sc_weave.specs.Inside.{Stops}
use Rattle.sc_weave.proofs.Stopping.{ends_so, not_read_fault}
use Rattle.sc_weave.proofs.Running.{woven_to_end}
use Rattle.sc_weave.proofs.Taking.{these_lines}
use Rattle.sc_weave.proofs.run.finish.Goals as goal

pub returns-in-Ok-clause-ends : goal.returns-in-Ok-clause-ends
returns-in-Ok-clause-ends g c = λ start taken h. woven_to_end start _ _ _ _ h _ _ (c.in-Ok.ensures.stops start h.lines h.written.told)

pub returns-in-Err-clause-ends : goal.returns-in-Err-clause-ends
returns-in-Err-clause-ends g c = λ start taken h.
    ends_so c.in-Err.end _ true start _ (subst (λ t. Stops c.in-Err.end t start (g.K.Sink.written c.weave_all.new.sink)) (sym (these_lines _ _ _ _ _ h true)) (c.in-Err.ensures.stops start h.lines h.written.told))

pub returns-in-Err-clause-read : goal.returns-in-Err-clause-read
returns-in-Err-clause-read g c = λ start taken h. not_read_fault c.in-Err.end _ start _ (c.in-Err.ensures.stops start h.lines h.written.told)
