use Rattle.std.proofs.Common.{Ok, subst, sym}
use Rattle.sc_route.specs.Jobs.{IsFormed}
use Rattle.sc_serve.specs.Service.{Handles}
use Rattle.sc_serve.proofs.answering.answer_job.Goals as goal

pub answer_load-requires : goal.answer_load-requires
answer_load-requires g c = subst IsFormed c.in-Load.is c.requires

pub returns-in-Load : goal.returns-in-Load
returns-in-Load g c begun old stands =
    let x = c.answer_load.ensures c.args.base.now begun old stands in
    (x.0, x.1, subst (λ w. Handles g.D.Desk.may_fail c.args.base.now c.args.close (Ok (record { seen = c.args.job.seen; work = w })) c.answer_load.result old x.0) (sym c.in-Load.is) x.2)
