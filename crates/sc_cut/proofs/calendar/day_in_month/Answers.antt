use Rattle.std.proofs.Common.{arith, to_z-of_z, FitsSigned, w32}
use Rattle.std.proofs.lemmas.Int.{ints}
use Rattle.jiff_core.proofs.SignedLemmas.{signed_arith}
use Rattle.sc_cut.proofs.Months.{day_found, day_in_range}
use Rattle.sc_cut.proofs.calendar.day_in_month.Goals as goal

pub returns-clause-day : goal.returns-clause-day
returns-clause-day c =
    let range = c.to_unix_epoch_day.ensures.bound in
    let fits : FitsSigned w32 c.to_unix_epoch_day.result = omega (arith, signed_arith) in
    rw (to_z-of_z fits) (day_found c.constrain.result c.args.month c.args.day _ _ c.to_unix_epoch_day.result c.constrain.ensures.year c.constrain.ensures.month c.constrain.ensures.day (omega (arith, ints)) (omega (arith, ints)) c.to_unix_epoch_day.ensures.value)

pub returns-clause-range : goal.returns-clause-range
returns-clause-range c =
    let range = c.to_unix_epoch_day.ensures.bound in
    let fits : FitsSigned w32 c.to_unix_epoch_day.result = omega (arith, signed_arith) in
    rw (to_z-of_z fits) (day_in_range c.constrain.result c.args.month _ c.to_unix_epoch_day.result c.constrain.ensures.year (omega (arith, ints)) c.to_unix_epoch_day.ensures.value range)
