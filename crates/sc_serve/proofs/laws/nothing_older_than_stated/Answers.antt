use Rattle.sc_serve.proofs.Telling.{stated_told}
use Rattle.sc_serve.proofs.laws.nothing_older_than_stated.Goals as goal

pub returns : goal.returns
returns g c = stated_told g.D.Desk.may_fail
