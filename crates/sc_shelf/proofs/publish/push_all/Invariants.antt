use Rattle.std.proofs.Common.{◌≡◌, ◌++◌, take}
use Rattle.sc_shelf.proofs.publish.push_all.Given as goal

abbrev pub invariant-loop-part : goal.invariant-loop-part
invariant-loop-part l = l.new.items ≡ l.initial.new.items ++ take l.part-index l.parts
