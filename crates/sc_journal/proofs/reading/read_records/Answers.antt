use Rattle.std.proofs.Common.{◌≡◌, ℕ, List, length, drop, ap, sym, subst, ◌∙◌, arith, rules}
use Rattle.sc_journal.specs.Reading.{IsRead, HasRecord}
use Rattle.sc_journal.proofs.Looking.{observed_then}
use Rattle.sc_journal.proofs.Gates.{taken_more}
use Rattle.sc_journal.proofs.reading.read_records.Goals as goal

pub records-preserved : goal.records-preserved
records-preserved g c =
    let so_far = c.records.invariant in
    let read = c.in_ok-size.ensures in
    let place = c.records.place in
    let size = c.in-Open.size in
    let payload = c.deref.result.now in
    let items = c.read_record.new.payload.items in
    let file = g.D.Disk.reads c.args.disk.now in
    let deref : payload ≡ items = search rules in
    let size_is : size ≡ length payload = read.size size c.in-Open.is ∙ ap (λ (l : List ℕ). length l) (sym deref) in
    let within = read.within size c.in-Open.is in
    record {
      within = omega (arith, within);
      few = omega (arith, so_far.few);
      taken =
          taken_more g.T.TakeRecords.took c.records.taker c.take.new.self place c.records.count size _ _ file payload so_far.taken c.in_ok-take-in-Open.ensures size_is (omega (arith, within, c.ranges.end.fits))
          (λ t. (c.read_record.ensures.observed.told t.0, t.1))
          (λ t.
          let same = so_far.observed.reads_same (c.read_record.ensures.observed.told t.0) in
          let is : HasRecord items (drop place (g.D.Disk.reads c.records.disk)) = subst (λ gate. IsRead gate items (drop place (g.D.Disk.reads c.records.disk))) c.in-Open.is (read.gate t.0 (t.1 ∙ ap (λ (l : List ℕ). length l) (sym same))) in
          subst (λ (l : List ℕ). HasRecord l (drop place file)) (sym deref) (subst (λ (f : List ℕ). HasRecord items (drop place f)) same is));
      observed = observed_then g.D.Disk.tells g.D.Disk.reads g.D.Disk.may_leave g.D.Disk.clock g.D.Disk.left_since c.args.disk.now c.records.disk c.read_record.new.disk so_far.observed c.read_record.ensures.observed;
      later = omega (arith, so_far.later, c.read_record.ensures.cause.later);
    }
