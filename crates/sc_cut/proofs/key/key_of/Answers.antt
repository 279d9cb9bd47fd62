use Rattle.std.proofs.Common.{subst, arith}
use Rattle.std.proofs.lemmas.Int.{ints}
use Rattle.sc_cut.specs.declared.cut.Cut.{Cut}
use Rattle.sc_cut.specs.declared.cut.Cut.TheVariants.{Year, Month}
use Rattle.sc_cut.specs.Key.{HasKey}
use Rattle.sc_cut.proofs.Keys.{one_key_only}
use Rattle.sc_cut.proofs.key.key_of.Goals as goal

pub returns-in-Year-clause-only : goal.returns-in-Year-clause-only
returns-in-Year-clause-only c key has =
    let P : Cut → Type 0 = λ cut. HasKey cut key c.args.start in
    let range = c.year_of.ensures.range in
    let same = one_key_only Year key c.year_of.result c.args.start (subst P c.in-Year.is has) (range.0, c.year_of.ensures.year) in
    omega (arith, ints)

pub returns-in-Month-clause-only : goal.returns-in-Month-clause-only
returns-in-Month-clause-only c key has =
    let P : Cut → Type 0 = λ cut. HasKey cut key c.args.start in
    let range = c.month_key_of.ensures.range in
    let same = one_key_only Month key c.month_key_of.result c.args.start (subst P c.in-Month.is has) c.month_key_of.ensures.key in
    omega (arith, ints)
