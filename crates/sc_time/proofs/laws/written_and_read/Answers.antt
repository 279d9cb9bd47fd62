use Rattle.sc_time.proofs.laws.written_and_read.Goals as goal
use Rattle.sc_time.proofs.Back.{read_back}

pub returns : goal.returns
returns c at text instant is = rw is.spelled (read_back at is.form instant is.numbers)
