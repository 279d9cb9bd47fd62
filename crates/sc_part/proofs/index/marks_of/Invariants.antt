use Rattle.std.proofs.Common.{◌≡◌, map, take}
use Rattle.sc_part.specs.Entry.{ids_of}
use Rattle.sc_part.specs.Scan.{is_among}
use Rattle.sc_part.proofs.index.marks_of.Given as goal

abbrev pub invariant-loop-id : goal.invariant-loop-id
invariant-loop-id l = l.marks.items ≡ map (is_among (take l.id-index l.gone)) (ids_of l.items)
