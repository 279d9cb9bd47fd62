use Rattle.std.proofs.Common.{arith, ◌≡◌, ◌&&◌, true, sym, ◌∙◌, to_z-of_z, FitsSigned, w32, w64}
use Rattle.jiff_core.proofs.SignedLemmas.{signed_arith}
use Rattle.sc_time.specs.Reading.{is_clock_time, is_offset}
use Rattle.sc_time.proofs.Readings.{instant_found}
use Rattle.sc_time.proofs.read.read_instant.Goals as goal

pub returns : goal.returns
returns c =
    let in_range : (is_clock_time c.in-Some.form.clock && is_offset c.in-Some.form.offset) ≡ true = sym c.is_time.ensures ∙ c.if-not-is_time.false in
    let range = c.in-Some-day_of.ensures.range in
    let fits : FitsSigned w32 c.in-Some-day_of.day = omega (arith, signed_arith) in
    let bound = c.seconds_of.ensures.bound in
    let fits_seconds : FitsSigned w64 c.seconds_of.result = omega (arith, signed_arith) in
    let seconds = rw (to_z-of_z fits) at c.seconds_of.ensures.value in
    let result = rw (to_z-of_z fits_seconds) at c.instant_at.ensures in
    instant_found c.args.text.now c.in-Some.form c.in-Some-day_of.day c.seconds_of.result c.instant_at.result c.in-Some.ensures.value c.in-Some-day_of.ensures.value in_range seconds result
