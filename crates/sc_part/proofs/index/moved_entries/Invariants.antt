use Rattle.std.proofs.Common.{◌≡◌, take}
use Rattle.std.specs.List.{filter_map}
use Rattle.sc_part.specs.Merged.{moved_entry}
use Rattle.sc_part.proofs.index.moved_entries.Given as goal

abbrev pub invariant-loop-entry : goal.invariant-loop-entry
invariant-loop-entry l = l.entries.items ≡ filter_map (moved_entry l.marks l.moved) (take l.entry-index l.index)
