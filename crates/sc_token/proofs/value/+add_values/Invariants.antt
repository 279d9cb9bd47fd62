use Rattle.std.proofs.Common.{length}
use Rattle.sc_token.proofs.value.+add_values.Given as goal

abbrev pub decreases-add_values : goal.decreases-add_values
decreases-add_values l = length l.keys.now
