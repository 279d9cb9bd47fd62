use Rattle.sc_server.specs.Seats.{TellsStop}
use Rattle.sc_server.proofs.seat.tell_stops.Given as goal

abbrev pub invariant-loop-told : goal.invariant-loop-told
invariant-loop-told g l = TellsStop l.told l.fn.notices l.notices
