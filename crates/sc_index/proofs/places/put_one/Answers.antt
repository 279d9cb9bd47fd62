use Rattle.std.proofs.Common.{rules, Some}
use Rattle.sc_index.proofs.Placing.{item_put}
use Rattle.sc_index.proofs.places.put_one.Goals as goal

pub returns-in-Some-clause-held : goal.returns-in-Some-clause-held
returns-in-Some-clause-held c = λ id.
    let written = (c.get_mut.follows.holds (Some c.args.item)).3 (search rules) in
    item_put c.args.item c.args.places.now (c.get_mut.follows.lender (Some c.args.item)) id (rw (c.id.ensures, c.deref.ensures) at written.0 id)
