use Rattle.sc_cqljson.specs.Operators.{pattern}
use Rattle.sc_cqljson.proofs.Telling.{told_behind}
use Rattle.sc_cqljson.proofs.arguments.pattern_behind.Goals as goal

pub returns-in-Err : goal.returns-in-Err
returns-in-Err c =
    told_behind pattern c.args.arg.now c.args.before.now c.in-Err.fault c.behind.result c.number_behind.result c.behind.ensures c.number_behind.ensures c.in-Err.ensures
