use Rattle.std.proofs.Common.{length, arith}
use Rattle.sc_history.proofs.Pasts.{back_grown, back_whole}
use Rattle.sc_history.proofs.Telling.{told_length, told_split}
use Rattle.sc_history.proofs.laws.longer_histories.Goals as goal

pub returns : goal.returns
returns c = record { split = told_split; length = told_length; back = back_grown; whole = λ past. back_whole past (length past) (omega arith) }
