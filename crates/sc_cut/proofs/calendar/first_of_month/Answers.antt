use Rattle.std.proofs.Common.{arith, ◌≡◌, ◌+◌, ◌/◌, ◌%◌}
use Rattle.std.specs.Prelude.{min}
use Rattle.jiff_core.proofs.SignedLemmas.{signed_arith}
use Rattle.sc_time.specs.Calendar.{days_of_month, day_number}
use Rattle.sc_cut.proofs.Months.{month_start-first, month_length}
use Rattle.sc_cut.proofs.calendar.first_of_month.Goals as goal

pub returns-clause-start : goal.returns-clause-start
returns-clause-start c =
    let month = c.args.month in
    let range = c.day_in_month.ensures.range in
    let length = month_length (month / 12) (month % 12 + 1) (omega arith, omega arith) in
    let first : min 1 (days_of_month (month / 12) (month % 12 + 1)) ≡ 1 = omega arith in
    let day : c.day_in_month.result ≡ day_number (month / 12) (month % 12 + 1) 1 = rw first at c.day_in_month.ensures.day in
    rw (month_start-first month) (omega (arith, signed_arith))
