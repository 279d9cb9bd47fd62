use Rattle.std.proofs.Common.{sym, ◌∙◌, Err, subst}
use Rattle.sc_script.proofs.Reading.{faulty, no_step}
use Rattle.sc_script.specs.Step.{Answers}
use Rattle.sc_script.proofs.read.read_step.Goals as goal

pub returns-in-Err-clause-answer : goal.returns-in-Err-clause-answer
returns-in-Err-clause-answer c = subst (λ f. Answers c.args.line.now (Err f)) (sym c.fault_of.ensures) (faulty c.args.line.now c.in-Err.fault c.in-Err.ensures)

pub returns-in-None-clause-answer : goal.returns-in-None-clause-answer
returns-in-None-clause-answer c = no_step c.args.line.now c.in-Ok.tree c.in-Ok.ensures (sym c.in-None.is ∙ c.in_ok-step.ensures.value)
