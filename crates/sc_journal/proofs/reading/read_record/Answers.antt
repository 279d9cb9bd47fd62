use Rattle.std.proofs.Common.{◌≡◌, List, ℕ, ◌+◌, length, take, drop, ap, subst, ◌∙◌, rules}
use Rattle.sc_journal.specs.Reading.{IsGate, HasLength}
use Rattle.sc_journal.proofs.Gates.{record_read}
use Rattle.sc_journal.proofs.reading.read_record.Goals as goal

pub returns-clause-gate : goal.returns-clause-gate
returns-clause-gate g c = λ t is.
    let file = g.D.Disk.reads c.args.disk.now in
    let place = c.args.place in
    let told = c.fill.ensures.observed.told t in
    let has : HasLength c.in-Open.size (drop place file) = subst (λ gate. IsGate gate (drop place file)) c.in-Open.is (c.in_ok-gate.ensures.gate told is) in
    let n = c.in_ok-count.count in
    let read = c.in_ok-count.ensures.bytes t ∙ ap (λ (f : List ℕ). take n (drop (place + 9) f)) (c.read_gate.ensures.observed.reads_same told) in
    let same : length c.fill.new.buf ≡ c.resize.new.self.len = search rules in
    let size_is : c.in-Open.size ≡ length c.fill.new.buf = search rules in
    let full : n ≡ length c.fill.new.buf = search rules in
    record_read c.fill.new.buf _ file c.in-Open.size n place c.resize.new.self.len has size_is full read same
