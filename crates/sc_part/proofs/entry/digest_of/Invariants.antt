use Rattle.std.proofs.Common.{◌≡◌, take}
use Rattle.sc_part.specs.Entry.{digest}
use Rattle.sc_part.proofs.entry.digest_of.Given as goal

abbrev pub invariant-loop-byte : goal.invariant-loop-byte
invariant-loop-byte l = l.hash ≡ digest (take l.byte-index l.byte-items)
