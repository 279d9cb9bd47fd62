use Rattle.std.proofs.Common.{arith}
use Rattle.sc_server.proofs.all.serve_and_stop.Goals as goal

pub stop_tighteners-requires : goal.stop_tighteners-requires
stop_tighteners-requires g c k w lt = (c.serve_listeners.ensures.each k w (omega (arith, c.serve_listeners.ensures.count, lt))).has_ended
