use Rattle.sc_desk.proofs.Passing.{turns_tight}
use Rattle.sc_desk.proofs.laws.hulls_stand.Goals as goal

pub returns : goal.returns
returns c = turns_tight
