use Rattle.std.proofs.Common.{arith}
use Rattle.jiff_core.proofs.SignedLemmas.{signed_casts}
use Rattle.sc_time.proofs.read.seconds_of.Goals as goal

pub returns-clause-value : goal.returns-clause-value
returns-clause-value c = rw (← c.seconds_of_clock_of.ensures, ← c.seconds_ahead_of.ensures.value) (omega (arith, signed_casts))
