use Rattle.sc_history.specs.History.{join_all}
use Rattle.sc_history.specs.Installs.{later}
use Rattle.std.proofs.Common.{◌≡◌, ◌-◌, drop, length}
use Rattle.sc_shelf.proofs.install.join_later.Given as goal

abbrev pub invariant-loop-i : goal.invariant-loop-i
invariant-loop-i l = l.all ≡ join_all l.hull (later l.stamp (drop (length l.additions - l.i) l.additions))
