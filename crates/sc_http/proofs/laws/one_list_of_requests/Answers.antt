use Rattle.sc_http.proofs.Whole.{one_list}
use Rattle.sc_http.proofs.laws.one_list_of_requests.Goals as goal

pub returns : goal.returns
returns c = one_list
