use Rattle.std.proofs.Common.{◌≡◌, Some, take}
use Rattle.sc_json.specs.Views.{number_of}
use Rattle.sc_geom.specs.Drawn.{all_read}
use Rattle.sc_query.proofs.space.numbers_in.Given as goal

abbrev pub invariant-loop-value : goal.invariant-loop-value
invariant-loop-value l = all_read number_of (take l.value-index l.values) ≡ Some l.numbers.items
