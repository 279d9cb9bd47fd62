use Rattle.std.proofs.Common.{arith, ◌≡◌, pos, unsigned_abs, FitsSigned, w16, of_z, to_z, to_z-of_z}
use Rattle.jiff_core.proofs.SignedLemmas.{signed_arith}
use Rattle.sc_time.proofs.Forms.{form_found, nonnegative}
use Rattle.sc_time.proofs.civil.form_of.Goals as goal

pub returns-clause-form : goal.returns-clause-form
returns-clause-form c =
    let positive = c.date_time_at-civil.ensures.year in
    let bounds = c.date_time_at-civil.result.date.year_in in
    let fits : FitsSigned w16 c.date_time_at-civil.result.date.year = omega (arith, signed_arith) in
    let year : c.date_time_at-civil.result.date.year ≡ pos (unsigned_abs (to_z w16 (of_z w16 c.date_time_at-civil.result.date.year))) =
    rw (to_z-of_z fits) (nonnegative c.date_time_at-civil.result.date.year positive) in
    form_found c.args.at c.date_time_at-civil.result _ c.date_time_at-civil.ensures.range c.date_time_at-civil.ensures.instant year
