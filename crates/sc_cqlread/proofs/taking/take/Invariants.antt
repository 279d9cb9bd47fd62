use Rattle.sc_cqlgrammar.proofs.Opening.{need}
use Rattle.sc_cqlread.specs.Passing.{Passes}
use Rattle.sc_cqlread.specs.Reading.{Reading, does}
use Rattle.sc_cqlread.specs.Kept.{Holds}
use Rattle.sc_cqlread.proofs.taking.take.Given as goal

-- what the machine has come to before the token
abbrev pub invariant-loop-mark : goal.invariant-loop-mark
invariant-loop-mark l = (r : Reading) → Holds l.initial.reading r → (m : Reading) × Holds l.reading m × Passes Reading (does l.text) l.initial.stack r l.token l.stack m

abbrev pub decreases-loop-mark : goal.decreases-loop-mark
decreases-loop-mark l = need l.stack
