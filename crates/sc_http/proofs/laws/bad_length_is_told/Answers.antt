use Rattle.sc_http.proofs.Whole.{length_told}
use Rattle.sc_http.proofs.laws.bad_length_is_told.Goals as goal

pub returns : goal.returns
returns c = length_told
