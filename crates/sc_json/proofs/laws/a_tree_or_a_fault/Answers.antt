use Rattle.sc_json.proofs.Answered.{tree_or_fault}
use Rattle.sc_json.proofs.laws.a_tree_or_a_fault.Goals as goal

pub returns : goal.returns
returns c = tree_or_fault
