use Rattle.sc_serve.proofs.Turns.{snaps}
use Rattle.sc_serve.proofs.lone.LoneDeskDeskUnit.take_snapshot.Goals as goal

pub returns : goal.returns
returns c begun old stands = snaps c.args.self.now.catalogue old stands c.snapshot.result c.snapshot.ensures.stands
