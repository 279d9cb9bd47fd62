use denote.Param.Send.{sendable}
use Rattle.std.proofs.Crossing.{crosses}
use Rattle.sc_keep.proofs.Crossing.{kept_send}
use Rattle.sc_server.proofs.keeping.serve_listeners.Goals as goal

pub for_each_mut-requires-send-T : goal.for_each_mut-requires-send-T
for_each_mut-requires-send-T g c κs ls = search (kept_send, sendable, crosses) depth 20 fits 6000
