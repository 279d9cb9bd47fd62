use Rattle.sc_cqlvalue.proofs.Readable.{token_reads}
use Rattle.sc_cqlvalue.proofs.laws.tokens_are_readable.Goals as goal

pub returns : goal.returns
returns c = token_reads
