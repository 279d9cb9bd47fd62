use Rattle.std.proofs.Common.{◌≡◌, ap, subst, arith}
use Rattle.crossbeam_queue.specs.Passes.{view}
use Rattle.sc_notice.specs.Callers.{Caller, AreWaiting}
use Rattle.sc_notice.proofs.Balance.{takes, learns}
use Rattle.sc_notice.proofs.Weights.{knows}
use Rattle.sc_notice.proofs.card.NoticeCard.hear.Goals as goal

pub pop_as-requires-clause-rule : goal.pop_as-requires-clause-rule
pop_as-requires-clause-rule g c = (takes _ _ c.self.invariant.some, learns _ _)

pub returns-in-None-clause-empty : goal.returns-in-None-clause-empty
returns-in-None-clause-empty g c all is_none =
    let is = ap (λ (x : Caller). x.shares) c.self.view_is in
    let whole : (view c.self.inside.seat).shares ≡ 1_024 = omega arith in
    subst (λ (x : Caller). AreWaiting x.calls 0) c.self.view_is
    (knows (view c.self.inside.seat) c.self.inside.pen.me.0 0 c.self.invariant.told c.self.invariant.heard whole c.in-None.ensures.rule.1)
