use denote.Param.Send.{sendable}
use Rattle.std.proofs.Crossing.{crosses}
use Rattle.sc_desk.proofs.Crossing.{pass_send}
use Rattle.sc_notice.proofs.Crossing.{notice_pass_send}
use Rattle.sc_server.proofs.all.tighten_all.Goals as goal

pub for_each_mut-requires-send-T : goal.for_each_mut-requires-send-T
for_each_mut-requires-send-T g c κs ls = search (pass_send, notice_pass_send, sendable, crosses) depth 20 fits 6000
