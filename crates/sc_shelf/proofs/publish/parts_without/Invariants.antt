use Rattle.std.proofs.Common.{◌≡◌, filter, not, take, bytes_eq}
use Rattle.sc_shelf.proofs.publish.parts_without.Given as goal

abbrev pub invariant-loop-part : goal.invariant-loop-part
invariant-loop-part l = l.new.items ≡ filter (λ part. not (bytes_eq part.name.collection l.collection)) (take l.part-index l.old)
