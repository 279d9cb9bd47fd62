use Rattle.sc_json.proofs.Written.{written_spells}
use Rattle.sc_json.proofs.laws.written_is_spelled.Goals as goal

pub returns : goal.returns
returns c = written_spells
