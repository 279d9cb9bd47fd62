use Rattle.std.proofs.Common.{◌≡◌, ◌++◌, map, take}
use Rattle.sc_cqltree.specs.Geometries.{line_part}
use Rattle.sc_cqltree.proofs.geometries.push_lines.Given as goal

abbrev pub invariant-loop-line : goal.invariant-loop-line
invariant-loop-line l = l.out.items ≡ l.initial.out.items ++ map line_part (take l.line-index l.lines)
