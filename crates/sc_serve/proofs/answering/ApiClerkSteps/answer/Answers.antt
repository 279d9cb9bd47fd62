use Rattle.sc_serve.proofs.Replying.{answers, ok_known, route_answers}
use Rattle.sc_serve.proofs.answering.ApiClerkSteps.answer.Goals as goal

pub returns-in-Err : goal.returns-in-Err
returns-in-Err g c begun old stands = (
  old,
  stands,
  route_answers g.D.Desk.may_fail c.args.self.now.base.now c.args.request.now c.in-Err.fault c.refuse_route.result old c.seen.result c.in-Err.ensures.answer c.refuse_route.ensures.known
      (c.seen.ensures begun old stands) c.refuse_route.ensures.text,
)

pub returns-in-Ok : goal.returns-in-Ok
returns-in-Ok g c begun old stands =
    let x = c.answer_job.ensures begun old stands in
    (x.0, x.1, answers g.D.Desk.may_fail c.args.self.now.base.now c.args.request.now _ c.answer_job.result old x.0 (c.in-Ok.ensures.answer, ok_known c.in-Ok.job) x.2)
