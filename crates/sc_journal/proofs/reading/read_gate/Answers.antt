use Rattle.std.proofs.Common.{◌≡◌, ◌-◌, min, length, drop, arith, rules}
use Rattle.std.proofs.lemmas.List.{length-drop}
use Rattle.sc_journal.proofs.Gates.{front_read}
use Rattle.sc_journal.proofs.reading.read_gate.Goals as goal

pub returns-clause-gate : goal.returns-clause-gate
returns-clause-gate g c = λ t is.
    let file = g.D.Disk.reads c.args.disk.now in
    let left : c.args.end - c.args.place ≡ length (drop c.args.place file) = omega (arith, is, length-drop c.args.place file) in
    let size : length c.fill.new.buf ≡ min (length file - c.args.place) 9 = search rules in
    c.gate_of.ensures.gate (drop c.args.place file)
    (front_read c.fill.new.buf _ file c.in_ok-count.count c.args.place size (c.in_ok-count.ensures.all t) (c.in_ok-count.ensures.bytes t)) left (omega (arith, c.requires))
