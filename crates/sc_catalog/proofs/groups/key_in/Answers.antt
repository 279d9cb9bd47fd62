use Rattle.std.proofs.Common.{rules, to_z-of_z, FitsSigned, w32}
use Rattle.sc_catalog.proofs.Steps.{key_fits}
use Rattle.sc_catalog.proofs.groups.key_in.Goals as goal

pub returns : goal.returns
returns c = λ collection key is of.
    let fits : FitsSigned w32 c.key_of.result = search rules in
    rw (to_z-of_z fits) (key_fits collection c.args.cut key c.key_of.result c.args.item.now is of (rw c.start.ensures at c.key_of.ensures.key) (rw c.start.ensures at c.key_of.ensures.only))
