use Rattle.std.proofs.Common.{◌+◌, ◌*◌}
use Rattle.sc_json.specs.Views.{values}
use Rattle.sc_cqljson.proofs.scalar.+scalar.Given as goal

abbrev pub decreases-read_folded : goal.decreases-read_folded
decreases-read_folded l = 2 * values l.tree.now

abbrev pub decreases-read_scalar : goal.decreases-read_scalar
decreases-read_scalar l = 2 * values l.tree.now + 1
