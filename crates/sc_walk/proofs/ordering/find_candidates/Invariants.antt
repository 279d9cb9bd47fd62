use Rattle.std.proofs.Common.{◌≡◌, take, filter}
use Rattle.std.specs.Prelude.{All}
use Rattle.sc_part.specs.Version.{IsKept}
use Rattle.sc_shelf.specs.Ticket.{version_of}
use Rattle.sc_walk.specs.Walk.{is_candidate}
use Rattle.sc_walk.proofs.ordering.find_candidates.Given as goal

abbrev pub invariant-loop-part : goal.invariant-loop-part
invariant-loop-part l =
    (l.candidates.items ≡ filter (is_candidate l.search) (take l.part-index l.parts))
    × All (λ part. IsKept (version_of part)) (take l.part-index l.parts)
