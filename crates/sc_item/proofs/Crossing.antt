-- An item may go to another thread, and be shared.
use denote.Param.Send.{IsSend, IsSync, sendable}
use Rattle.std.proofs.Crossing.{crosses}
use Rattle.sc_base.proofs.text.Text.TheSendSync as the_text
use Rattle.sc_time.proofs.instant.Instant.TheSendSync as the_instant
use Rattle.sc_geom.proofs.boxes.GridBox.TheSendSync as the_box
use Rattle.sc_geom.proofs.geom.Geom.TheSendSync as the_geom
use Rattle.sc_json.proofs.Crossing.{member_send, member_sync}
use Rattle.sc_item.specs.contracts.item.Item as item

pub item_send : IsSend item.the_row
item_send = search (member_send, the_text.the_send, the_geom.the_send, the_box.the_send, the_instant.the_send, sendable, crosses) depth 20 fits 6000

pub item_sync : IsSync item.the_row
item_sync = search (member_sync, the_text.the_sync, the_geom.the_sync, the_box.the_sync, the_instant.the_sync, sendable, crosses) depth 20 fits 6000
