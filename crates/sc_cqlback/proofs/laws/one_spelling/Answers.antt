use Rattle.sc_cqlback.proofs.Quotes.{one_name, one_text}
use Rattle.sc_cqlback.proofs.laws.one_spelling.Goals as goal

pub returns-clause-names : goal.returns-clause-names
returns-clause-names c = one_name

pub returns-clause-texts : goal.returns-clause-texts
returns-clause-texts c = one_text
