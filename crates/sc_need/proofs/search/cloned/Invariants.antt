use Rattle.std.proofs.Common.{◌≡◌, ◌++◌, drop}
use Rattle.sc_need.proofs.search.cloned.Given as goal

abbrev pub invariant-loop-name : goal.invariant-loop-name
invariant-loop-name l = l.copy ++ drop l.name-index l.names ≡ l.fn.names
