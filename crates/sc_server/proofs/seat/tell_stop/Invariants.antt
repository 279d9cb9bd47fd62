use Rattle.sc_server.specs.Seats.{TellsStop}
use Rattle.sc_server.proofs.seat.tell_stop.Given as goal

abbrev pub invariant-loop : goal.invariant-loop
invariant-loop g l = TellsStop 0 l.fn.notices l.notices
