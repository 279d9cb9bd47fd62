use Rattle.sc_http.proofs.Whole.{length_beyond}
use Rattle.sc_http.proofs.laws.bad_length_stays.Goals as goal

pub returns : goal.returns
returns c = length_beyond
