use Rattle.std.proofs.Common.{◌≡◌, ◌++◌}
use Rattle.std.specs.Option.{option_copied}
use Rattle.sc_sort.specs.Sorts.{keys_of_text}
use Rattle.sc_sort.proofs.Commas.{keys_left, bytes_left}
use Rattle.sc_sort.proofs.text.keys_of_text.Given as goal

abbrev pub invariant-loop-left : goal.invariant-loop-left
invariant-loop-left l = l.keys.items ++ keys_left (option_copied l.left) ≡ keys_of_text l.text

abbrev pub decreases-loop-left : goal.decreases-loop-left
decreases-loop-left l = bytes_left (option_copied l.left)
