use Rattle.sc_cqljson.specs.Operators.{scalar}
use Rattle.sc_cqljson.proofs.Telling.{told_behind}
use Rattle.sc_cqljson.proofs.arguments.scalar_behind.Goals as goal

pub returns-in-Err-clause-answer : goal.returns-in-Err-clause-answer
returns-in-Err-clause-answer c =
    told_behind scalar c.args.arg.now c.args.before.now c.in-Err.fault c.behind.result c.number_behind.result c.behind.ensures c.number_behind.ensures c.in-Err.ensures.answer
