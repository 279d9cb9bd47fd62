use Rattle.std.proofs.Common.{Ok, subst, sym}
use Rattle.sc_route.specs.declared.job.Work.TheVariants as Of
use Rattle.sc_serve.specs.Service.{Handles}
use Rattle.sc_serve.proofs.Replying.{tried}
use Rattle.sc_serve.proofs.loading.answer_load.Goals as goal

pub returns-in-None : goal.returns-in-None
returns-in-None g c base begun old stands =
    let y = c.try_load.ensures base begun old stands in (
      y.0,
      y.1,
      subst (λ s. Handles g.D.Desk.may_fail base c.args.close (Ok (record { seen = s; work = Of.Load c.args.load })) c.try_load.result old y.0) (sym c.in-None.is)
          (tried g.D.Desk.may_fail base c.args.close c.args.load c.try_load.result old y.0 y.2),
    )

pub returns-in-Some : goal.returns-in-Some
returns-in-Some g c base begun old stands =
    let y = c.load_from.ensures base begun old stands in
    (y.0, y.1, subst (λ s. Handles g.D.Desk.may_fail base c.args.close (Ok (record { seen = s; work = Of.Load c.args.load })) c.load_from.result old y.0) (sym c.in-Some.is) y.2)
