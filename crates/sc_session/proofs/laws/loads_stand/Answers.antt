use Rattle.sc_session.proofs.Turning.{handled_own}
use Rattle.sc_session.proofs.laws.loads_stand.Goals as goal

pub returns : goal.returns
returns g c clerk = handled_own (g.C.Clerk.service clerk) (g.met.C.Clerk.numbered clerk)
