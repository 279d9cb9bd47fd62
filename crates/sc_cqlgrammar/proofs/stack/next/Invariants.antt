use Rattle.sc_cqlgrammar.specs.Rules.{Items}
use Rattle.sc_cqlgrammar.specs.Machine.{Opens}
use Rattle.sc_cqlgrammar.proofs.Opening.{need}
use Rattle.sc_cqlgrammar.proofs.stack.next.Given as goal

-- what the stack opens onto is what it opened onto at first
abbrev pub invariant-loop-wanted : goal.invariant-loop-wanted
invariant-loop-wanted l = (js : Items) → Opens l.stack l.fn.class js → Opens l.initial.stack l.fn.class js

abbrev pub decreases-loop-wanted : goal.decreases-loop-wanted
decreases-loop-wanted l = need l.stack
