use Rattle.std.proofs.Common.{arith, ◌≤ℤ◌, FitsSigned, to_z-of_z}
use Rattle.std.specs.Int.{w128}
use Rattle.jiff_core.proofs.SignedLemmas.{signed_arith}
use Rattle.sc_cut.proofs.Keys.{is_range}
use Rattle.sc_cut.proofs.Months.{month_start-mono, month_start-nonempty}
use Rattle.sc_cut.proofs.span.range_of_months.Goals as goal

pub unreachable-requires : goal.unreachable-requires
unreachable-requires c =
    let first = c.first_of_month.ensures.start in
    let last = c.last_of_month.ensures.end in
    let low = c.first_of_month.ensures.range in
    let high = c.last_of_month.ensures.range in
    let first_fits : FitsSigned w128 c.first_of_month.result = omega (arith, signed_arith) in
    let last_fits : FitsSigned w128 c.last_of_month.result = omega (arith, signed_arith) in
    let order = month_start-mono c.args.first c.args.last c.requires.order in
    let next = month_start-nonempty c.args.last in
    let le : c.first_of_month.result ≤ℤ c.last_of_month.result = omega (arith, signed_arith) in
    is_range c.of-from.result c.of-to.result c.first_of_month.result c.last_of_month.result c.of.result
    (rw (to_z-of_z first_fits) at c.of-from.ensures) (rw (to_z-of_z last_fits) at c.of-to.ensures) low high le c.of.ensures c.in-None.is
