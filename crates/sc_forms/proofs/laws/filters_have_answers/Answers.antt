use Rattle.sc_forms.proofs.Filters.{filter_answered}
use Rattle.sc_forms.proofs.laws.filters_have_answers.Goals as goal

pub returns : goal.returns
returns c = filter_answered
