use Rattle.sc_http.proofs.Whole.{end_no_whole}
use Rattle.sc_http.proofs.laws.no_request_at_an_end.Goals as goal

pub returns : goal.returns
returns c = end_no_whole
