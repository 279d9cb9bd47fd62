use Rattle.sc_http.proofs.Whole.{never_more}
use Rattle.sc_http.proofs.laws.malformed_stays.Goals as goal

pub returns : goal.returns
returns c = never_more
