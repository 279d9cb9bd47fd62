use Rattle.std.proofs.Common.{length}
use Rattle.sc_page.proofs.compare.+compare_with_values.Given as goal

abbrev pub decreases-compare_with_values : goal.decreases-compare_with_values
decreases-compare_with_values l = length l.keys.now
