use Rattle.std.proofs.Common.{length}
use Rattle.stacd.proofs.Judging.{Judged}
use Rattle.stacd.proofs.lines.judge.Given as goal

abbrev pub invariant-reading : goal.invariant-reading
invariant-reading l = Judged l.all l.fn.bytes l.rest l.count l.limit l.names l.page

abbrev pub decreases-reading : goal.decreases-reading
decreases-reading l = length l.rest
