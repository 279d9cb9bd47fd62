use Rattle.std.proofs.Common.{Ok, subst, sym}
use Rattle.sc_serve.specs.Service.{Handles}
use Rattle.sc_serve.proofs.Replying.{looks_from}
use Rattle.sc_serve.proofs.reading.answer_read.Goals as goal

pub answer_by_snapshot-requires-clause-looks : goal.answer_by_snapshot-requires-clause-looks
answer_by_snapshot-requires-clause-looks g c = looks_from c.args.work.now c.in-Some.stated c.requires

pub returns-in-None : goal.returns-in-None
returns-in-None g c begun old stands =
    let y = c.answer_unstated.ensures begun old stands in
    (y.0, y.1, subst (λ s. Handles g.D.Desk.may_fail c.args.base.now c.args.close (Ok (record { seen = s; work = c.args.work.now })) c.answer_unstated.result old y.0) (sym c.in-None.is) y.2)

pub returns-in-Some : goal.returns-in-Some
returns-in-Some g c begun old stands =
    let y = c.answer_by_snapshot.ensures begun old stands in
    (y.0, y.1, subst (λ s. Handles g.D.Desk.may_fail c.args.base.now c.args.close (Ok (record { seen = s; work = c.args.work.now })) c.answer_by_snapshot.result old y.0) (sym c.in-Some.is) y.2)
