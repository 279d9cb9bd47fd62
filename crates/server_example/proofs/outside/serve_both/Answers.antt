use denote.Param.Send.{sendable}
use Rattle.std.proofs.Crossing.{crosses}
use Rattle.server_example.proofs.Crossing.{passes_send, text_sync}
use Rattle.server_example.proofs.outside.serve_both.Goals as goal

pub join-requires-send-F : goal.join-requires-send-F
join-requires-send-F g c κs within = search (passes_send, text_sync, sendable, crosses) depth 20 fits 6000
