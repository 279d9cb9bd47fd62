-- The passes of a connection may go to another thread, and a text may be shared between threads.
use denote.Ref.{NamedLft}
use denote.Param.Send.{IsSend, IsSync, sendable}
use Rattle.std.proofs.Crossing.{crosses}
use Rattle.sc_base.specs.contracts.text.Text as text
use Rattle.sc_desk.proofs.Crossing.{pass_send}
use Rattle.sc_notice.proofs.Crossing.{notice_pass_send}
use Rattle.server_example.specs.contracts.outside.Passes as passes

pub passes_send : (d n : NamedLft) → IsSend (passes.the_row d n)
passes_send d n = search (pass_send, notice_pass_send, sendable, crosses) depth 20 fits 6000

pub text_sync : IsSync text.the_row
text_sync = search (sendable, crosses) depth 20 fits 6000
