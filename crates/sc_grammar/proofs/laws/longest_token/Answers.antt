use Rattle.sc_grammar.proofs.Next.{next_is}
use Rattle.sc_grammar.proofs.laws.longest_token.Goals as goal

pub returns : goal.returns
returns c = next_is
