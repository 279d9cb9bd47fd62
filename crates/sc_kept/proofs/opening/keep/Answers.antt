use Rattle.sc_kept.proofs.Storing.{kept_new}
use Rattle.sc_kept.proofs.opening.keep.Goals as goal

pub invariant_of-result : goal.invariant_of-result
invariant_of-result g c =
    kept_new g.D.Disk.tells g.D.Disk.may_leave g.D.Disk.faults c.args.catalogue.entries c.args.journal c.requires.holds.0 c.new.result.items c.place-size.result
    c.requires.holds.1 c.requires.holds.2 c.requires.last c.new.ensures.items c.place-size.ensures c.if-size-ge-TOO_MANY.false
