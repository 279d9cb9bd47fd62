use Rattle.sc_session.proofs.Steps.{handled_all}
use Rattle.sc_session.proofs.laws.all_requests_are_handled.Goals as goal

pub returns : goal.returns
returns g c clerk = handled_all (g.C.Clerk.service clerk)
