use Rattle.sc_cqlgrammar.proofs.Opening.{need}
use Rattle.sc_cqlgrammar.proofs.Valued.{IsAsGood}
use Rattle.sc_wkt.specs.Drawing.{Drawing, reads, draws}
use Rattle.sc_wkt.specs.Kept.{IsDrawing}
use Rattle.sc_wkt.proofs.taking.take.Given as goal

-- the stack with what is drawn takes the token just as both did at first
abbrev pub invariant-loop-mark : goal.invariant-loop-mark
invariant-loop-mark l = (d : Drawing) → IsDrawing l.initial.drawing d → (m : Drawing) × IsDrawing l.drawing m × IsAsGood Drawing (reads l.fn.text) draws l.initial.stack d l.stack m l.fn.token

abbrev pub decreases-loop-mark : goal.decreases-loop-mark
decreases-loop-mark l = need l.stack
