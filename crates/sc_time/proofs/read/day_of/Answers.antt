use Rattle.std.proofs.Common.{arith, ◌≡◌, pos, to_z-of_z, FitsSigned, w32}
use Rattle.std.proofs.lemmas.Int.{ints}
use Rattle.jiff_core.proofs.SignedLemmas.{signed_arith}
use Rattle.sc_time.proofs.Calendars.{found_day, found_range}
use Rattle.sc_time.proofs.read.day_of.Goals as goal

pub returns-in-Ok-clause-value : goal.returns-in-Ok-clause-value
returns-in-Ok-clause-value c =
    let day = c.in-Ok.day in
    let is = c.in-Ok.ensures.value in
    let year : c.in-Ok.day.year ≡ pos c.args.date.year = omega (arith, ints) in
    let month : c.in-Ok.day.month ≡ c.args.date.month = omega (arith, ints) in
    let here : c.in-Ok.day.day ≡ c.args.date.day = omega (arith, ints) in
    let fits : FitsSigned w32 c.to_unix_epoch_day.result = omega (arith, signed_arith) in
    rw (to_z-of_z fits) (found_day c.args.date c.in-Ok.day c.to_unix_epoch_day.result year month here c.to_unix_epoch_day.ensures.value)

pub returns-in-Ok-clause-range : goal.returns-in-Ok-clause-range
returns-in-Ok-clause-range c =
    let is = c.in-Ok.ensures.value in
    let year : c.in-Ok.day.year ≡ pos c.args.date.year = omega (arith, ints) in
    let range = found_range c.args.date.year c.in-Ok.day c.to_unix_epoch_day.result year c.to_unix_epoch_day.ensures.value c.to_unix_epoch_day.ensures.bound in
    let fits : FitsSigned w32 c.to_unix_epoch_day.result = omega (arith, signed_arith) in
    rw (to_z-of_z fits) range
