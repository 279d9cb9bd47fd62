use Rattle.std.proofs.Common.{rules, ◌≢◌, Ok, subst}
use Rattle.sc_http.specs.declared.fault.HttpEnd.TheVariants.{OutOfMemory}
use Rattle.sc_http.specs.Intake.{Answers}
use Rattle.sc_session.proofs.Steps.{answered, ends_refused, fewer}
use Rattle.sc_session.proofs.serving.serve_next.Goals as goal

pub returns-in-Ok-Some-clause-goes : goal.returns-in-Ok-Some-clause-goes
returns-in-Ok-Some-clause-goes g c begun first mid stands s =
    let service = g.C.Clerk.service c.args.clerk.now in
    let r = g.S.Source in
    let o = g.K.Sink in
    let is = subst (λ found. Answers (Ok found) c.args.intake.now c.next_request.new.self (r.left c.args.source.now) (r.left c.next_request.new.source) (r.ended c.next_request.new.source) (r.faults c.args.source.now) (r.faults c.next_request.new.source))
    c.in-Ok-Some.field-0-is c.in-Ok-Some.ensures.next in
    let x = c.answer_one.ensures.answers begun mid stands in (
      x.0,
      x.1,
      answered service first (r.left c.args.source.now) (r.left c.next_request.new.source) (o.written c.args.sink.now) (o.written c.answer_one.new.sink)
          (r.ended c.args.source.now) (r.ended c.next_request.new.source) (r.faults c.args.source.now) (r.faults c.next_request.new.source) (o.faults c.args.sink.now) (o.faults c.answer_one.new.sink)
          mid x.0 c.args.intake.now c.next_request.new.self
          s c.in-Ok-Some.ensures.later c.answer_one.ensures.later c.in-Ok-Some.request is c.answer_one.result x.2,
    )

pub returns-else-eq-clause-goes : goal.returns-else-eq-clause-goes
returns-else-eq-clause-goes g c begun first mid stands s =
    let service = g.C.Clerk.service c.args.clerk.now in
    let r = g.S.Source in
    let o = g.K.Sink in
    let not : c.in-Err.end ≢ OutOfMemory = search rules in
    let x = c.in-Err.ensures.next not in (
      mid,
      stands,
      ends_refused service first (r.left c.args.source.now) (r.left c.next_request.new.source) (o.written c.args.sink.now) (o.written c.refuse_end.new.sink)
          (r.ended c.args.source.now) (r.ended c.next_request.new.source) (r.faults c.args.source.now) (r.faults c.next_request.new.source) (o.faults c.args.sink.now) (o.faults c.refuse_end.new.sink)
          mid c.args.intake.now c.next_request.new.self.taken s c.in-Err.ensures.later c.refuse_end.ensures.later
          c.in-Err.end not x.0 x.1.takes.taken x.1.takes.parts x.1.takes.took x.1.takes.counted x.2 c.refuse_end.result (c.refuse_end.ensures.refused begun mid stands),
    )

pub returns-in-Ok-Some-clause-fewer : goal.returns-in-Ok-Some-clause-fewer
returns-in-Ok-Some-clause-fewer g c =
    let r = g.S.Source in
    let is = subst (λ found. Answers (Ok found) c.args.intake.now c.next_request.new.self (r.left c.args.source.now) (r.left c.next_request.new.source) (r.ended c.next_request.new.source) (r.faults c.args.source.now) (r.faults c.next_request.new.source))
    c.in-Ok-Some.field-0-is c.in-Ok-Some.ensures.next in
    fewer c.args.intake.now c.next_request.new.self (r.left c.args.source.now) (r.left c.next_request.new.source) c.in-Ok-Some.request is c.answer_one.result
