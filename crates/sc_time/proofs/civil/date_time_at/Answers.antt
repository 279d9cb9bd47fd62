use Rattle.std.proofs.Common.{arith, ◌≡◌, ◌≤ℤ◌, pos, neg_ℤ, FitsSigned, to_z-of_z}
use Rattle.std.specs.Int.{w128}
use Rattle.jiff_core.proofs.SignedLemmas.{signed_arith}
use Rattle.jiff_core.proofs.DateTimeLemmas.{civil_nanos-parts, time_nanos_bound}
use Rattle.jiff_core.specs.Date.{epoch_day}
use Rattle.jiff_core.specs.DateTime.{civil_nanos}
use Rattle.sc_time.proofs.Periods.{year_not_negative}
use Rattle.sc_time.proofs.civil.date_time_at.Goals as goal

pub returns-clause-year : goal.returns-clause-year
returns-clause-year c =
    let range = c.nanoseconds.ensures.range in
    let value = c.nanoseconds.ensures.value in
    let fits : FitsSigned w128 c.nanoseconds.result = omega (arith, signed_arith) in
    let found : civil_nanos c.from_nanosecond_in_range.result ≡ c.nanoseconds.result = rw (to_z-of_z fits) at c.from_nanosecond_in_range.ensures in
    let low : neg_ℤ (pos 719_528) ≤ℤ epoch_day c.from_nanosecond_in_range.result.date =
    omega (arith, signed_arith, civil_nanos-parts c.from_nanosecond_in_range.result, time_nanos_bound c.from_nanosecond_in_range.result.time) in
    year_not_negative c.from_nanosecond_in_range.result.date low
