use Rattle.sc_grammar.proofs.Longest.{one_kind_only}
use Rattle.sc_grammar.proofs.laws.one_kind.Goals as goal

pub returns : goal.returns
returns c = one_kind_only
