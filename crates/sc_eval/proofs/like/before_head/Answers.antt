use Rattle.std.proofs.Common.{rules, arith}
use Rattle.sc_eval.proofs.Places.{head_nowhere, head_first}
use Rattle.sc_eval.proofs.like.before_head.Goals as goal

pub returns-in-None : goal.returns-in-None
returns-in-None c = head_nowhere _ _ _ c.requires c.utf8.text c.utf8.head c.in-None.ensures.cases

pub returns-in-Some : goal.returns-in-Some
returns-in-Some c =
    let at = c.in-Some.ensures.cases in
    head_first _ _ _ _ at.0 c.requires c.utf8.text c.utf8.head (search rules) at.3 (omega (arith, at.5, at.7)) at.2.0
