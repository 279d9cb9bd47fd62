-- A JSON tree may go to another thread, and be shared. The lemmas on fields are for the types that have a tree in a field.
use denote.Param.Send.{IsSend, IsSync, sendable}
use Rattle.std.proofs.Crossing.{crosses}
use Rattle.sc_base.proofs.text.Text.TheSendSync as the_text
use Rattle.sc_json.proofs.tree.Json.TheLaws.TheKnot as knot
use Rattle.sc_json.proofs.tree.Num.TheSendSync as the_num
use Rattle.sc_json.specs.contracts.tree.Json as json
use Rattle.sc_json.specs.contracts.tree.Member as member

pub json_send : IsSend json.the_row
json_send = search (knot.send-Json, the_text.the_send, the_num.the_field_send, sendable, crosses) depth 20 fits 6000

pub json_sync : IsSync json.the_row
json_sync = search (knot.sync-Json, the_text.the_sync, the_num.the_field_sync, sendable, crosses) depth 20 fits 6000

pub json_field_send : IsSend json.the_field.row
json_field_send = search (knot.send-Json, the_text.the_send, the_num.the_field_send, sendable, crosses) depth 20 fits 6000

pub json_field_sync : IsSync json.the_field.row
json_field_sync = search (knot.sync-Json, the_text.the_sync, the_num.the_field_sync, sendable, crosses) depth 20 fits 6000

pub member_send : IsSend member.the_row
member_send = search (knot.send-Json, knot.send-Member, the_text.the_send, the_num.the_field_send, sendable, crosses) depth 20 fits 6000

pub member_sync : IsSync member.the_row
member_sync = search (knot.sync-Json, knot.sync-Member, the_text.the_sync, the_num.the_field_sync, sendable, crosses) depth 20 fits 6000
