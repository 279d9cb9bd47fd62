use Rattle.sc_cqlgrammar.proofs.Opening.{mark_needs_less}
use Rattle.sc_cqlread.specs.Passing.{stands}
use Rattle.sc_cqlread.specs.Reading.{Reading, eats, does}
use Rattle.sc_cqlread.proofs.Going.{passes_mark, passes_token, passes_stop}
use Rattle.sc_cqlread.proofs.Finishing.{mark_ends}
use Rattle.sc_cqlread.proofs.taking.take.Goals as goal

pub loop-mark-init : goal.loop-mark-init
loop-mark-init c = λ r h. (r, h, stands c.args.stack.now r c.args.token)

pub loop-mark-smaller : goal.loop-mark-smaller
loop-mark-smaller c = mark_needs_less c.loop-mark.stack c.args.token.class c.in-Mark.mark c.next.new.self (rw c.in-Mark.is at c.in_ok-mark.ensures)

pub mark-requires : goal.mark-requires
mark-requires c =
    let r = c.requires.reading in
    let p = c.loop-mark.invariant r.0 r.1 in (
      p.0,
      p.1,
      mark_ends c.args.text.now r.2 c.args.stack.now r.0 r.3 c.args.token c.loop-mark.stack p.0 p.2 c.in-Mark.mark c.next.new.self (rw c.in-Mark.is at c.in_ok-mark.ensures),
    )

pub loop-mark-preserved : goal.loop-mark-preserved
loop-mark-preserved c = λ r h.
    let p = c.loop-mark.invariant r h in (
      does c.args.text.now c.in-Mark.mark p.0,
      c.in_ok-mark-in-Mark.ensures p.0 p.1,
      passes_mark Reading (eats c.args.text.now) (does c.args.text.now) c.args.stack.now r c.args.token c.loop-mark.stack p.0 p.2 c.in-Mark.mark c.next.new.self (rw c.in-Mark.is at c.in_ok-mark.ensures),
    )

pub returns-in-Taken : goal.returns-in-Taken
returns-in-Taken c = λ r h.
    let p = c.loop-mark.invariant r h in (
      eats c.args.text.now c.args.token p.0,
      c.eat.ensures p.0 p.1,
      passes_token Reading (eats c.args.text.now) (does c.args.text.now) c.args.stack.now r c.args.token c.loop-mark.stack p.0 p.2 c.next.new.self (rw c.in-Taken.is at c.in_ok-mark.ensures),
    )

pub returns-in-Refused : goal.returns-in-Refused
returns-in-Refused c = λ r h.
    let p = c.loop-mark.invariant r h in
    let e = rw c.in-Refused.is at c.in_ok-mark.ensures in (
      p.0,
      p.1,
      passes_stop Reading (eats c.args.text.now) (does c.args.text.now) c.args.stack.now r c.args.token c.loop-mark.stack p.0 p.2 e.0 e.1 e.2,
    )
