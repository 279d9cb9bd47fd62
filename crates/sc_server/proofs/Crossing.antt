-- A seat may go to another thread.
use denote.Ref.{NamedLft}
use denote.Param.Send.{IsSend, sendable}
use Rattle.std.proofs.Crossing.{crosses}
use Rattle.sc_desk.proofs.Crossing.{pass_send}
use Rattle.sc_notice.proofs.Crossing.{notice_pass_send}
use Rattle.sc_server.specs.contracts.seat.Seat as seat

pub seat_send : (d n : NamedLft) → IsSend (seat.the_row d n)
seat_send d n = search (pass_send, notice_pass_send, sendable, crosses) depth 20 fits 6000
