use Rattle.std.proofs.Common.{arith, ◌≡◌, unsigned_abs, to_z, w32}
use Rattle.std.proofs.lemmas.Int.{ints}
use Rattle.sc_time.proofs.Forms.{form_in_month, form_month, month_cast}
use Rattle.sc_time.proofs.civil.month_of.Goals as goal

pub returns-clause-month : goal.returns-clause-month
returns-clause-month c year here =
    let small = form_month c.args.at c.form_of.result c.form_of.ensures.form in
    let same : unsigned_abs (to_z w32 c.form_of.result.date.month) ≡ c.form_of.result.date.month = omega (arith, ints) in
    rw same (form_in_month c.args.at c.form_of.result year c.form_of.ensures.form here)

pub returns-clause-range : goal.returns-clause-range
returns-clause-range c = month_cast c.form_of.result.date.month (form_month c.args.at c.form_of.result c.form_of.ensures.form)
