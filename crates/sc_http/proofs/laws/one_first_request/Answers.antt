use Rattle.sc_http.proofs.Whole.{one_first}
use Rattle.sc_http.proofs.laws.one_first_request.Goals as goal

pub returns : goal.returns
returns c = one_first
