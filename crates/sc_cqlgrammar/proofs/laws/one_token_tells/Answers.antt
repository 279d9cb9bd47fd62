use Rattle.sc_cqlgrammar.proofs.Fitting.{one_token}
use Rattle.sc_cqlgrammar.proofs.laws.one_token_tells.Goals as goal

pub returns : goal.returns
returns c = one_token
