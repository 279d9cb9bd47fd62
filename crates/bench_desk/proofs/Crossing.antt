-- A client may go to another thread.
use denote.Ref.{NamedLft}
use denote.Param.Send.{IsSend, sendable}
use Rattle.std.proofs.Crossing.{crosses}
use Rattle.sc_outside.proofs.memory.MemSource.TheSendSync as the_source
use Rattle.sc_desk.proofs.Crossing.{pass_send}
use Rattle.sc_notice.proofs.Crossing.{notice_pass_send}
use Rattle.bench_desk.proofs.client.CountingSink.TheSendSync as the_sink
use Rattle.bench_desk.specs.contracts.client.Client as client

pub client_send : (d n : NamedLft) → IsSend (client.the_row d n)
client_send d n = search (pass_send, notice_pass_send, the_source.the_field_send, the_sink.the_field_send, sendable, crosses) depth 20 fits 6000
