use Rattle.sc_http.proofs.Whole.{bad_beyond}
use Rattle.sc_http.proofs.laws.bad_head_stays.Goals as goal

pub returns : goal.returns
returns c = bad_beyond
