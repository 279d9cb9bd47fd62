use Rattle.sc_kept.proofs.Storing.{crash_has}
use Rattle.sc_kept.proofs.kept.Kept.stored.Goals as goal

pub returns-clause-crash : goal.returns-clause-crash
returns-clause-crash g c =
    rw (c.count.ensures, ← c.self.view_is)
    (crash_has g.D.Disk.tells g.D.Disk.may_leave c.self.inside.catalogue.entries c.self.inside.journal c.self.inside.backlog.items c.self.invariant.stored_to)
