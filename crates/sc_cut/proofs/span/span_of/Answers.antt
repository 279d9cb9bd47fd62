use Rattle.std.proofs.Common.{subst, arith}
use Rattle.std.proofs.lemmas.Int.{ints}
use Rattle.sc_cut.specs.declared.cut.Cut.{Cut}
use Rattle.sc_cut.specs.Key.{IsKey}
use Rattle.sc_cut.proofs.Keys.{whole_span, year_span, span_of_range}
use Rattle.sc_cut.proofs.span.span_of.Goals as goal

pub returns-in-Whole-clause-span : goal.returns-in-Whole-clause-span
returns-in-Whole-clause-span c =
    whole_span c.args.name.now.cut c.args.name.now.key c.range_of_months.result c.in-Whole.is c.range_of_months.ensures

pub returns-in-Whole-clause-starts : goal.returns-in-Whole-clause-starts
returns-in-Whole-clause-starts c =
    let same = whole_span c.args.name.now.cut c.args.name.now.key c.range_of_months.result c.in-Whole.is c.range_of_months.ensures in
    span_of_range c.args.name.now.cut c.args.name.now.key c.range_of_months.result same c.requires

pub returns-in-Year-clause-span : goal.returns-in-Year-clause-span
returns-in-Year-clause-span c =
    let P : Cut → Type 0 = λ cut. IsKey cut c.args.name.now.key in
    let range = subst P c.in-Year.is c.requires in
    year_span c.args.name.now.cut c.args.name.now.key _ c.range_of_months-in-Year.result c.in-Year.is (omega (arith, ints, range.0, range.1)) c.range_of_months-in-Year.ensures

pub returns-in-Year-clause-starts : goal.returns-in-Year-clause-starts
returns-in-Year-clause-starts c =
    let P : Cut → Type 0 = λ cut. IsKey cut c.args.name.now.key in
    let range = subst P c.in-Year.is c.requires in
    let same = year_span c.args.name.now.cut c.args.name.now.key _ c.range_of_months-in-Year.result c.in-Year.is (omega (arith, ints, range.0, range.1)) c.range_of_months-in-Year.ensures in
    span_of_range c.args.name.now.cut c.args.name.now.key c.range_of_months-in-Year.result same c.requires
