use Rattle.sc_json.proofs.FaultLaws as laws
use Rattle.sc_json.proofs.laws.one_fault.Goals as goal

pub returns : goal.returns
returns c = laws.one_fault
