use Rattle.std.proofs.Common.{length}
use Rattle.sc_http.specs.Reading.{CountedTo}
use Rattle.sc_http.proofs.lines.count_on.Given as goal

abbrev pub invariant-counting : goal.invariant-counting
invariant-counting l = CountedTo l.fn.lines l.bytes l.rest l.count

abbrev pub decreases-counting : goal.decreases-counting
decreases-counting l = length l.rest
