use Rattle.std.proofs.Common.{◌+◌, ◌*◌}
use Rattle.sc_json.specs.Views.{values}
use Rattle.sc_cqljson.proofs.scalar.+pattern.Given as goal

abbrev pub decreases-read_folded_pattern : goal.decreases-read_folded_pattern
decreases-read_folded_pattern l = 2 * values l.tree.now

abbrev pub decreases-read_pattern : goal.decreases-read_pattern
decreases-read_pattern l = 2 * values l.tree.now + 1
