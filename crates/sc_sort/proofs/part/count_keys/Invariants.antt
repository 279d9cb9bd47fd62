use Rattle.std.proofs.Common.{◌≡◌, ◌+◌, length}
use Rattle.std.specs.List.{list_any}
use Rattle.std.specs.Option.{option_copied}
use Rattle.sc_sort.specs.Sorts.{keys_of_text, is_unnamed}
use Rattle.sc_sort.proofs.Commas.{keys_left, bytes_left}
use Rattle.sc_sort.proofs.part.count_keys.Given as goal

abbrev pub invariant-loop-left : goal.invariant-loop-left
invariant-loop-left l = record {
  named : list_any is_unnamed (keys_left (option_copied l.left)) ≡ list_any is_unnamed (keys_of_text l.text);
  counted : l.count + length (keys_left (option_copied l.left)) ≡ length (keys_of_text l.text);
}

abbrev pub decreases-loop-left : goal.decreases-loop-left
decreases-loop-left l = bytes_left (option_copied l.left)
