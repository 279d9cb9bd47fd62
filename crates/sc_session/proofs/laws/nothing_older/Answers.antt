use Rattle.sc_session.proofs.Turning.{told_rise, handled_rise, handled_grows}
use Rattle.sc_session.proofs.laws.nothing_older.Goals as goal

pub returns-clause-told : goal.returns-clause-told
returns-clause-told g c clerk = told_rise (g.C.Clerk.service clerk) (g.met.C.Clerk.numbered clerk)

pub returns-clause-visits : goal.returns-clause-visits
returns-clause-visits g c clerk = handled_rise (g.C.Clerk.service clerk) (g.met.C.Clerk.numbered clerk)

pub returns-clause-seen : goal.returns-clause-seen
returns-clause-seen g c clerk = handled_grows (g.C.Clerk.service clerk) (g.met.C.Clerk.numbered clerk)
