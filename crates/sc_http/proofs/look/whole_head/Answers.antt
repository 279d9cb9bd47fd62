use Rattle.std.proofs.Common.{subst, take, arith}
use Rattle.sc_http.specs.Heads.{HeadOf}
use Rattle.sc_http.proofs.Fronts.{head_of_front}
use Rattle.sc_http.proofs.look.whole_head.Goals as goal

pub returns-in-Found : goal.returns-in-Found
returns-in-Found c =
    let f = subst (HeadOf (take c.min.result c.args.bytes.now)) c.in-Found.is c.in_ok-head.ensures in
    (f.0, _, head_of_front _ _ _ _ f.2 (omega (arith, c.min.ensures)) f.3, f.4)
