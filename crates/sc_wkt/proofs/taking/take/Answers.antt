use Rattle.sc_cqlgrammar.proofs.Opening.{mark_needs_less}
use Rattle.sc_cqlgrammar.proofs.Valued.{good_marked, good_taken, good_refused}
use Rattle.sc_wkt.specs.Drawing.{Drawing, reads, draws}
use Rattle.sc_wkt.proofs.taking.take.Goals as goal

pub loop-mark-smaller : goal.loop-mark-smaller
loop-mark-smaller c = mark_needs_less c.loop-mark.stack c.args.token.class c.in-Mark.mark c.next.new.self (rw c.in-Mark.is at c.in_ok-mark.ensures)

pub loop-mark-preserved : goal.loop-mark-preserved
loop-mark-preserved c = λ d is.
    let before = c.loop-mark.invariant d is in (
      _,
      c.in_ok-draw-in-Mark.ensures before.0 before.1,
      good_marked Drawing (reads c.args.text.now) draws c.args.stack.now d c.loop-mark.stack before.0 c.args.token c.in-Mark.mark c.next.new.self (rw c.in-Mark.is at c.in_ok-mark.ensures) before.2,
    )

pub returns-in-Taken : goal.returns-in-Taken
returns-in-Taken c = λ d is.
    let before = c.loop-mark.invariant d is in (
      _,
      good_taken Drawing (reads c.args.text.now) draws c.args.stack.now d c.loop-mark.stack before.0 c.args.token c.next.new.self (rw c.in-Taken.is at c.in_ok-mark.ensures) before.2,
      c.read.ensures before.0 before.1,
    )

pub returns-in-Refused : goal.returns-in-Refused
returns-in-Refused c = λ d is.
    let before = c.loop-mark.invariant d is in
    let step = rw c.in-Refused.is at c.in_ok-mark.ensures in
    good_refused Drawing (reads c.args.text.now) draws c.args.stack.now d c.loop-mark.stack before.0 c.args.token step.0 step.1 step.2 before.2
