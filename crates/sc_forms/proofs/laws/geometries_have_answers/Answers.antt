use Rattle.sc_forms.proofs.Geometries.{geometry_answered}
use Rattle.sc_forms.proofs.laws.geometries_have_answers.Goals as goal

pub returns : goal.returns
returns c = geometry_answered
