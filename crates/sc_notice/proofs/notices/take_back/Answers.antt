use Rattle.sc_notice.proofs.Balance.{merges}
use Rattle.sc_notice.proofs.notices.take_back.Goals as goal

pub absorb-requires-clause-rule : goal.absorb-requires-clause-rule
absorb-requires-clause-rule c = merges _ _ _ _ c.loop-card.invariant.some
