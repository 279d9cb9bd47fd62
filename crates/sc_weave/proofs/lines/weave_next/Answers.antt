use Rattle.std.proofs.Common.{MatchResult, [], ◌∷◌, ◌++◌, sym, subst, append_assoc}
use Rattle.sc_weave.specs.Inside.{HasTold, Stops}
use Rattle.sc_weave.proofs.Stopping.{stops_here}
use Rattle.sc_weave.proofs.lines.weave_next.Goals as goal

pub returns-in-Ok-clause-stops : goal.returns-in-Ok-clause-stops
returns-in-Ok-clause-stops g c = λ start lines rest h.
    subst (λ t. MatchResult c.write_if_full.result (λ _. HasTold start (g.K.Sink.written c.write_if_full.new.sink) c.write_if_full.new.progress (lines ++ c.args.line.now ∷ [])) (λ end. Stops end t start (g.K.Sink.written c.write_if_full.new.sink)))
    (append_assoc lines (c.args.line.now ∷ []) rest) (c.write_if_full.ensures.stops start (lines ++ c.args.line.now ∷ []) rest (c.in-Ok.ensures.ok start _ lines h))

pub returns-in-Err-BadStep-clause-stops : goal.returns-in-Err-BadStep-clause-stops
returns-in-Err-BadStep-clause-stops g c = λ start lines rest h.
    let is = c.in-Err-BadStep.field-0-is in
    let same = c.in-Err-BadStep.ensures.same is in
    c.end_at_line.ensures.stops start lines rest _ (subst (λ progress. HasTold start (g.K.Sink.written c.args.sink.now) progress lines) (sym same) h) (c.in-Err-BadStep.ensures.bad start _ lines h is)

pub returns-in-Err-OutOfMemory-clause-stops : goal.returns-in-Err-OutOfMemory-clause-stops
returns-in-Err-OutOfMemory-clause-stops g c = λ start lines rest h. stops_here lines (c.args.line.now ∷ rest) start _ _ h
