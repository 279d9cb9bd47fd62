use Rattle.sc_json.proofs.Answered.{fault_excludes}
use Rattle.sc_json.proofs.laws.faults_spell_nothing.Goals as goal

pub returns : goal.returns
returns c = fault_excludes
