use Rattle.std.proofs.Common.{take}
use Rattle.sc_token.proofs.Spread.{IsSpread}
use Rattle.sc_token.proofs.digits.spread.Given as goal

abbrev pub invariant-loop-at : goal.invariant-loop-at
invariant-loop-at l = IsSpread (take l.count l.initial.bytes) l.bytes l.at

abbrev pub decreases-loop-at : goal.decreases-loop-at
decreases-loop-at l = l.at
