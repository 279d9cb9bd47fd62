use Rattle.std.proofs.Common.{arith}
use Rattle.std.proofs.lemmas.Int.{ints}
use Rattle.sc_cut.proofs.Keys.{key_of_month}
use Rattle.sc_cut.proofs.key.month_key_of.Goals as goal

pub returns-clause-key : goal.returns-clause-key
returns-clause-key c =
    let years = c.year_of.ensures.range in
    let months = c.month_of.ensures.range in
    (key_of_month c.year_of.result c.month_of.result _ c.args.start years months (omega (arith, ints)) c.year_of.ensures.year c.month_of.ensures.month).0
