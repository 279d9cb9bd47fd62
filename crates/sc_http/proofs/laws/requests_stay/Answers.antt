use Rattle.sc_http.proofs.Whole.{are_stay}
use Rattle.sc_http.proofs.laws.requests_stay.Goals as goal

pub returns : goal.returns
returns c = are_stay
