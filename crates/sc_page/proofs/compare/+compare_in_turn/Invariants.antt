use Rattle.std.proofs.Common.{length}
use Rattle.sc_page.proofs.compare.+compare_in_turn.Given as goal

abbrev pub decreases-compare_in_turn : goal.decreases-compare_in_turn
decreases-compare_in_turn l = length l.keys.now
