use Rattle.std.proofs.Common.{Some, None, to_z-of_z, w32, FitsSigned, rules}
use Rattle.sc_machine.proofs.Looking.{part_found}
use Rattle.sc_machine.proofs.looks.part_named.Goals as goal

pub returns-in-Some : goal.returns-in-Some
returns-in-Some c =
    let fits : FitsSigned w32 c.args.key = search rules in
    rw (to_z-of_z fits) (part_found c.args.catalogue.now.entries c.in_ok-snapshot.snapshot c.in_ok-snapshot.ensures.stands c.args.collection c.args.key (Some c.in-Some.cut) c.in-Some.ensures)

pub returns-in-None : goal.returns-in-None
returns-in-None c = part_found c.args.catalogue.now.entries c.in_ok-snapshot.snapshot c.in_ok-snapshot.ensures.stands c.args.collection c.args.key None c.in-None.ensures
