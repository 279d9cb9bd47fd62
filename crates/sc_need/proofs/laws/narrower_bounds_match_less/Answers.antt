use Rattle.sc_need.proofs.Covering.{may_match_within}
use Rattle.sc_need.proofs.laws.narrower_bounds_match_less.Goals as goal

pub returns : goal.returns
returns c = may_match_within
