use Rattle.sc_serve.proofs.Telling.{search_told}
use Rattle.sc_serve.proofs.laws.searches_are_pages.Goals as goal

pub returns : goal.returns
returns g c = search_told g.D.Desk.may_fail
