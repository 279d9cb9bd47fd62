use Rattle.std.proofs.Common.{length}
use Rattle.sc_page.proofs.Reading.{ReadBack}
use Rattle.sc_page.proofs.first.FirstItems.add_backwards.Given as goal

abbrev pub invariant-reading : goal.invariant-reading
invariant-reading l = ReadBack l.search l.items l.rest l.fn.self l.self

abbrev pub decreases-reading : goal.decreases-reading
decreases-reading l = length l.rest
