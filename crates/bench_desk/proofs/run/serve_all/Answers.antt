use denote.Param.Send.{sendable}
use Rattle.std.proofs.Crossing.{crosses}
use Rattle.bench_desk.proofs.Crossing.{client_send}
use Rattle.bench_desk.proofs.run.serve_all.Goals as goal

pub for_each_mut-requires-send-T : goal.for_each_mut-requires-send-T
for_each_mut-requires-send-T g c κs ls = search (client_send, sendable, crosses) depth 20 fits 6000
