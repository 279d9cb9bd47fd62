use Rattle.std.proofs.Common.{◌≡◌, map, take}
use Rattle.sc_http.specs.Heads.{header_at}
use Rattle.sc_http.proofs.head.headers_at.Given as goal

abbrev pub invariant-loop-span : goal.invariant-loop-span
invariant-loop-span l = l.headers.items ≡ map (header_at l.bytes) (take l.span-index l.spans)
