use Rattle.std.proofs.Common.{◌≡◌, ap, subst, sym, arith}
use Rattle.crossbeam_queue.specs.Passes.{view, ruled_capacity}
use Rattle.sc_notice.specs.Callers.{Caller, Queue, AreWaiting}
use Rattle.sc_notice.proofs.Balance.{puts, learns}
use Rattle.sc_notice.proofs.Weights.{knows}
use Rattle.sc_notice.proofs.card.NoticeCard.tell.Goals as goal

pub push_as-requires-clause-rule : goal.push_as-requires-clause-rule
push_as-requires-clause-rule g c = (puts _ _ _ _ c.self.invariant.some, learns _ _)

pub returns-clause-full : goal.returns-clause-full
returns-clause-full g c all =
    let is = ap (λ (x : Caller). x.shares) c.self.view_is in
    let whole : (view c.self.inside.seat).shares ≡ 1_024 = omega arith in
    let room : ruled_capacity c.args.notices.now.queue ≡ c.args.self.now.of.room = ap (λ (q : Queue). q.room) (sym c.requires) in
    let waiting = knows (view c.self.inside.seat) c.self.inside.pen.me.0 _ c.self.invariant.told c.self.invariant.heard whole c.in-Err.ensures.rule.2 in
    subst (AreWaiting c.args.self.now.calls) room (subst (λ (x : Caller). AreWaiting x.calls (ruled_capacity c.args.notices.now.queue)) c.self.view_is waiting)
