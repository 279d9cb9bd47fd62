use Rattle.sc_cqlwrite.specs.Written.{tokens_of}
use Rattle.sc_cqlback.proofs.Readings.{text_read}
use Rattle.sc_cqlback.proofs.Expressions.{filter_lexical}
use Rattle.sc_cqlback.proofs.laws.written_is_read.Goals as goal

pub returns : goal.returns
returns c = λ expr is ends. text_read (tokens_of expr) (filter_lexical expr is ends)
