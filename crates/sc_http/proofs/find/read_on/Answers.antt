use Rattle.std.proofs.Common.{arith, subst, sym, ◌∙◌, ◌≤◌}
use Rattle.std.proofs.lemmas.List.{length-take}
use Rattle.sc_http.specs.Requests.{HasNoHead}
use Rattle.sc_http.specs.Room.{IsShort}
use Rattle.sc_http.specs.Intake.{IsUnfinishedHead}
use Rattle.sc_http.specs.Reading.{IsMeasured, LookedAt}
use Rattle.sc_http.proofs.Fronts.{measured_more, still_none}
use Rattle.sc_http.proofs.Steps.{counts_reads, counts_more, rest_of, reads_same, reads_end, reads_failed, reads_more, within_more, grown, unless, still_open}
use Rattle.sc_http.proofs.find.read_on.Goals as goal

pub finding-init : goal.finding-init
finding-init g c = record {
  reads = reads_same _ _ _;
  within = c.requires.within;
  limit = c.requires.limit;
  measured = c.requires.measured;
  none = c.requires.none;
  open_still = λ e. e;
  later = omega arith;
}

pub returns-in-Ok-eq0-clause-reads : goal.returns-in-Ok-eq0-clause-reads
returns-in-Ok-eq0-clause-reads g c =
    unless _ _ (reads_end _ _ _ _ _ _ _ _ _ c.finding.invariant.reads c.in-Ok-eq0.ensures.bytes.0 c.in-Ok-eq0.field-0-test)

pub look_again-requires-clause-measured : goal.look_again-requires-clause-measured
look_again-requires-clause-measured g c =
    let i = c.finding.invariant in
    let more = measured_more _ _ _ _ i.measured i.none.short c.count_on-more.ensures in
    let grew = grown _ _ _ _ i.within c.in_ok-extend_from_slice-in-Ok.ensures.items in
    subst (IsMeasured c.count_on-more.result) (sym (rest_of _ _ c.args.at c.deref-in-Ok.ensures.value ∙ grew)) more

pub look_again-requires-clause-none : goal.look_again-requires-clause-none
look_again-requires-clause-none g c =
    let i = c.finding.invariant in
    let more = measured_more _ _ _ _ i.measured i.none.short c.count_on-more.ensures in
    let grew = grown _ _ _ _ i.within c.in_ok-extend_from_slice-in-Ok.ensures.items in
    λ same. subst (λ b. IsShort b → HasNoHead b) (sym (rest_of _ _ c.args.at c.deref-in-Ok.ensures.value ∙ grew))
    (still_none _ _ _ _ i.measured i.none more same)

pub returns-in-Whole-clause-reads : goal.returns-in-Whole-clause-reads
returns-in-Whole-clause-reads g c =
    let i = c.finding.invariant in
    let bound = c.in-Ok.ensures.bound in
    let few : c.in-Ok.count ≤ 8192 = omega (arith, bound.0, c.read.auto.buf, c.room_for-room.ensures.chunk, length-take c.room_for-room.result c.finding.chunk) in
    reads_more _ _ _ _ _ _ _ _ _ _ _ _ i.within c.in_ok-extend_from_slice-in-Ok.ensures.items bound.0 few i.reads c.in-Ok.ensures.bytes.0 i.none

pub returns-in-Bad-clause-reads : goal.returns-in-Bad-clause-reads
returns-in-Bad-clause-reads g c =
    let i = c.finding.invariant in
    let bound = c.in-Ok.ensures.bound in
    let few : c.in-Ok.count ≤ 8192 = omega (arith, bound.0, c.read.auto.buf, c.room_for-room.ensures.chunk, length-take c.room_for-room.result c.finding.chunk) in
    λ _. reads_more _ _ _ _ _ _ _ _ _ _ _ _ i.within c.in_ok-extend_from_slice-in-Ok.ensures.items bound.0 few i.reads c.in-Ok.ensures.bytes.0 i.none

pub finding-preserved : goal.finding-preserved
finding-preserved g c =
    let i = c.finding.invariant in
    let bound = c.in-Ok.ensures.bound in
    let few : c.in-Ok.count ≤ 8192 = omega (arith, bound.0, c.read.auto.buf, c.room_for-room.ensures.chunk, length-take c.room_for-room.result c.finding.chunk) in
    let more = measured_more _ _ _ _ i.measured i.none.short c.count_on-more.ensures in
    let grew = grown _ _ _ _ i.within c.in_ok-extend_from_slice-in-Ok.ensures.items in
    let looked = subst (LookedAt _) c.in-More.is c.in_ok-head-in-Ok.ensures in
    record {
      reads = reads_more _ _ _ _ _ _ _ _ _ _ _ _ i.within c.in_ok-extend_from_slice-in-Ok.ensures.items bound.0 few i.reads c.in-Ok.ensures.bytes.0 i.none;
      within = within_more _ _ _ _ i.within c.in_ok-extend_from_slice-in-Ok.ensures.items;
      limit = omega (arith, bound.0, c.read.auto.buf, c.room_for-room.ensures.left, length-take c.room_for-room.result c.finding.chunk);
      measured = subst (IsMeasured c.count_on-more.result) (sym grew) more;
      none = subst IsUnfinishedHead (rest_of _ _ c.args.at c.deref-in-Ok.ensures.value) looked;
      open_still = λ e. absurd (still_open _ c.in-Ok.count _ c.in-Ok.count-test.1 c.in-Ok.ensures.end e);
      later = omega (arith, i.later, c.in-Ok.ensures.cause.later);
    }

pub returns-in-Err-clause-reads : goal.returns-in-Err-clause-reads
returns-in-Err-clause-reads g c = λ _. reads_failed _ _ _ _ _ _ _ c.finding.invariant.reads c.in-Err.ensures.bytes

pub returns-in_err-extend_from_slice-in-Ok-clause-counted : goal.returns-in_err-extend_from_slice-in-Ok-clause-counted
returns-in_err-extend_from_slice-in-Ok-clause-counted g c =
    counts_more _ _ _ _ _ _ _ (counts_reads _ _ _ _ _ _ c.finding.invariant.reads) c.in-Ok.ensures.bytes.0 c.in-Ok.ensures.bound.0

pub returns-in_err-head-in-Ok-clause-counted : goal.returns-in_err-head-in-Ok-clause-counted
returns-in_err-head-in-Ok-clause-counted g c =
    counts_more _ _ _ _ _ _ _ (counts_reads _ _ _ _ _ _ c.finding.invariant.reads) c.in-Ok.ensures.bytes.0 c.in-Ok.ensures.bound.0

pub returns-in-Whole-clause-counted : goal.returns-in-Whole-clause-counted
returns-in-Whole-clause-counted g c =
    counts_more _ _ _ _ _ _ _ (counts_reads _ _ _ _ _ _ c.finding.invariant.reads) c.in-Ok.ensures.bytes.0 c.in-Ok.ensures.bound.0

pub returns-in-Bad-clause-counted : goal.returns-in-Bad-clause-counted
returns-in-Bad-clause-counted g c =
    counts_more _ _ _ _ _ _ _ (counts_reads _ _ _ _ _ _ c.finding.invariant.reads) c.in-Ok.ensures.bytes.0 c.in-Ok.ensures.bound.0
