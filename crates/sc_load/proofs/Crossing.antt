-- A load may go to another thread, and be shared. The lemmas on fields are for the types that have a load in a field.
use denote.Param.Send.{IsSend, IsSync, sendable}
use Rattle.std.proofs.Crossing.{crosses}
use Rattle.sc_base.proofs.text.Text.TheSendSync as the_text
use Rattle.sc_cut.proofs.cut.Cut.TheSendSync as the_cut
use Rattle.sc_json.proofs.Crossing.{json_field_send, json_field_sync}
use Rattle.sc_item.proofs.Crossing.{item_send, item_sync}
use Rattle.sc_load.specs.contracts.load.Load as load

pub load_send : IsSend load.the_row
load_send = search (json_field_send, item_send, item_sync, the_text.the_send, the_cut.the_field_send, sendable, crosses) depth 20 fits 6000

pub load_sync : IsSync load.the_row
load_sync = search (json_field_sync, item_send, item_sync, the_text.the_sync, the_cut.the_field_sync, sendable, crosses) depth 20 fits 6000

pub load_field_send : IsSend load.the_field.row
load_field_send = search (json_field_send, item_send, item_sync, the_text.the_send, the_cut.the_field_send, sendable, crosses) depth 20 fits 6000

pub load_field_sync : IsSync load.the_field.row
load_field_sync = search (json_field_sync, item_send, item_sync, the_text.the_sync, the_cut.the_field_sync, sendable, crosses) depth 20 fits 6000
