use Rattle.sc_server.proofs.Seats.{stops_more, tells_none}
use Rattle.sc_server.proofs.seat.tell_stops.Goals as goal

pub loop-told-init : goal.loop-told-init
loop-told-init g c = tells_none c.args.notices.now

pub loop-told-preserved : goal.loop-told-preserved
loop-told-preserved g c = stops_more c.loop-told.told c.args.notices.now c.loop-told.notices c.tell_stop.new.notices c.loop-told.invariant c.tell_stop.ensures
