use Rattle.sc_need.proofs.Covering.{may_match_holds}
use Rattle.sc_need.proofs.laws.parts_with_satisfying_items_may_match.Goals as goal

pub returns : goal.returns
returns c need item bounds name m kept here covers = may_match_holds need item bounds name m kept.place here covers
