use Rattle.sc_token.proofs.Answered.{read_back}
use Rattle.sc_token.proofs.laws.written_and_read.Goals as goal

pub returns : goal.returns
returns c = read_back
