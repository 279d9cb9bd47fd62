use Rattle.std.proofs.Common.{◌≡◌, Some, take}
use Rattle.sc_geom.specs.Drawn.{all_read}
use Rattle.sc_json.specs.Views.{number_of}
use Rattle.sc_cqljson.proofs.literal.numbers_in.Given as goal

abbrev pub invariant-loop-element : goal.invariant-loop-element
invariant-loop-element l = all_read number_of (take l.element-index l.elements) ≡ Some l.numbers.items
