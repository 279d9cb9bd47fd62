use Rattle.std.proofs.Common.{sym, subst}
use Rattle.sc_serve.specs.Desks.{IsAlone}
use Rattle.sc_serve.proofs.Turns.{refuses, takes_load}
use Rattle.sc_serve.proofs.lone.LoneDeskDeskUnit.publish.Goals as goal

pub returns-in-Ok : goal.returns-in-Ok
returns-in-Ok c begun old stands = takes_load c.args.self.now.catalogue old stands c.publish.new.self c.args.load c.in-Ok.published c.in-Ok.ensures.ok

pub returns-in-Err : goal.returns-in-Err
returns-in-Err c begun old stands =
    let x = refuses c.args.self.now.catalogue old stands c.args.load c.in-Err.fault c.revision-revision.result c.revision-revision.ensures.revision c.in-Err.ensures.fault in
    (x.0, subst (λ h. IsAlone h.entries x.0) (sym c.in-Err.ensures.err) x.1, x.2)
