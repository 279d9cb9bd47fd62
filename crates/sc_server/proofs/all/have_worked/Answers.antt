use denote.Param.Send.{sendable}
use Rattle.std.proofs.Crossing.{crosses}
use Rattle.sc_server.proofs.Crossing.{seat_send}
use Rattle.sc_server.proofs.all.have_worked.Goals as goal

pub join-tighteners-requires-send-F : goal.join-tighteners-requires-send-F
join-tighteners-requires-send-F g c κs within = search (seat_send, sendable, crosses) depth 20 fits 6000

pub join-tighteners-requires-send-A : goal.join-tighteners-requires-send-A
join-tighteners-requires-send-A g c κs within = search (seat_send, sendable, crosses) depth 20 fits 6000
