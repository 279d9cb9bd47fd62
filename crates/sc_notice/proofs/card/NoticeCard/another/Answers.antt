use Rattle.std.proofs.Common.{◌<◌, ap, arith}
use Rattle.crossbeam_queue.specs.Passes.{view}
use Rattle.sc_notice.specs.Callers.{Caller}
use Rattle.sc_notice.proofs.Balance.{forks}
use Rattle.sc_notice.proofs.card.NoticeCard.another.Goals as goal

pub another-seat-requires-clause-rule : goal.another-seat-requires-clause-rule
another-seat-requires-clause-rule c =
    let is = ap (λ (x : Caller). x.shares) c.self.view_is in
    let more = c.requires.more in
    let some : 1 < (view c.self.inside.seat).shares = omega arith in
    forks _ _ some
