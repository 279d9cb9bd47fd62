use Rattle.sc_http.proofs.Whole.{has_bytes}
use Rattle.sc_http.proofs.laws.request_has_bytes.Goals as goal

pub returns : goal.returns
returns c = has_bytes
