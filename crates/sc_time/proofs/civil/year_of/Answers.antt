use Rattle.std.proofs.Common.{arith, ◌≡◌, unsigned_abs, to_z, w32}
use Rattle.std.proofs.lemmas.Int.{ints}
use Rattle.sc_time.proofs.Forms.{form_in_year}
use Rattle.sc_time.proofs.civil.year_of.Goals as goal

pub returns-clause-year : goal.returns-clause-year
returns-clause-year c =
    let small = c.form_of.ensures.form.year in
    let same : unsigned_abs (to_z w32 c.form_of.result.date.year) ≡ c.form_of.result.date.year = omega (arith, ints) in
    rw same (form_in_year c.args.at c.form_of.result c.form_of.ensures.form)
