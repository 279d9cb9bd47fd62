use Rattle.sc_forms.proofs.Meaning.{one_meaning}
use Rattle.sc_forms.proofs.laws.one_meaning.Goals as goal

pub returns : goal.returns
returns c = one_meaning
