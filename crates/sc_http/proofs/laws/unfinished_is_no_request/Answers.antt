use Rattle.sc_http.proofs.Whole.{unfinished_no_whole}
use Rattle.sc_http.proofs.laws.unfinished_is_no_request.Goals as goal

pub returns : goal.returns
returns c = unfinished_no_whole
