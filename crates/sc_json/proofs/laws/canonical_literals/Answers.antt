use Rattle.sc_json.proofs.CanonicalLiterals.{canonical_literal}
use Rattle.sc_json.proofs.laws.canonical_literals.Goals as goal

pub returns : goal.returns
returns c = canonical_literal
