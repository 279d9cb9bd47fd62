use Rattle.std.proofs.Common.{sym, subst, ◌∙◌}
use Rattle.sc_json.specs.Faults.{IsCut}
use Rattle.sc_json.proofs.Answered.{answers_text}
use Rattle.sc_json.proofs.FaultLaws.{cut_is}
use Rattle.sc_json.proofs.reader.read_json.Goals as goal

pub returns-in-Err : goal.returns-in-Err
returns-in-Err c = subst (IsCut c.args.bytes.now) (sym (c.valid_up_to.ensures ∙ c.in-Err.ensures.valid_len)) (cut_is c.args.bytes.now c.in-Err.ensures.cases.0)

pub returns-in-Ok : goal.returns-in-Ok
returns-in-Ok c = answers_text c.args.bytes.now c.read_all.result c.in-Ok.ensures.cases.1 c.read_all.ensures
