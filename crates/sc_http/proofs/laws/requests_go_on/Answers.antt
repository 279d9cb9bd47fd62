use Rattle.sc_http.proofs.Whole.{go_on}
use Rattle.sc_http.proofs.laws.requests_go_on.Goals as goal

pub returns : goal.returns
returns c = go_on
