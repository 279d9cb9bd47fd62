-- An index of items may go to another thread, and be shared, as the field of another type.
use denote.Param.Send.{IsSend, IsSync, sendable}
use Rattle.std.proofs.Crossing.{crosses}
use Rattle.std.proofs.MapsCrossing.{BTreeMap-send, BTreeMap-sync}
use Rattle.sc_base.proofs.text.Text.TheSendSync as the_text
use Rattle.sc_item.proofs.Crossing.{item_send, item_sync}
use Rattle.sc_index.specs.contracts.index.ItemIndex as index

pub index_field_send : IsSend index.the_field.row
index_field_send = search (item_send, item_sync, the_text.the_send, BTreeMap-send, sendable, crosses) depth 20 fits 6000

pub index_field_sync : IsSync index.the_field.row
index_field_sync = search (item_send, item_sync, the_text.the_sync, BTreeMap-sync, sendable, crosses) depth 20 fits 6000
