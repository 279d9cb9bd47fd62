use Rattle.std.proofs.Common.{◌≡◌}
use Rattle.std.specs.Option.{option_copied}
use Rattle.sc_base.specs.Parts.{parts_between}
use Rattle.sc_geom.specs.Drawn.{all_read}
use Rattle.sc_sort.proofs.Commas.{parts_left, bytes_left}
use Rattle.sc_query.specs.Space.{number_in_text}
use Rattle.sc_query.proofs.Parts.{behind}
use Rattle.sc_query.proofs.space.numbers_in_text.Given as goal

abbrev pub invariant-loop-left : goal.invariant-loop-left
invariant-loop-left l = behind l.numbers.items (all_read number_in_text (parts_left (option_copied l.left))) ≡ all_read number_in_text (parts_between 44 l.fn.text)

abbrev pub decreases-loop-left : goal.decreases-loop-left
decreases-loop-left l = bytes_left (option_copied l.left)
