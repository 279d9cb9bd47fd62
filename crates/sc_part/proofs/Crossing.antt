-- A part's version may go to another thread, and be shared.
use denote.Param.Send.{IsSend, IsSync, sendable}
use Rattle.std.proofs.Crossing.{crosses}
use Rattle.sc_cut.proofs.name.PartName.TheSendSync as the_name
use Rattle.sc_bounds.proofs.bounds.Bounds.TheSendSync as the_bounds
use Rattle.sc_item.proofs.Crossing.{item_send, item_sync}
use Rattle.sc_part.proofs.entry.Entry.TheSendSync as the_entry
use Rattle.sc_part.specs.contracts.version.PartVersion as part

pub part_send : IsSend part.the_row
part_send = search (item_send, item_sync, the_name.the_field_send, the_bounds.the_send, the_entry.the_send, sendable, crosses) depth 20 fits 6000

pub part_sync : IsSync part.the_row
part_sync = search (item_send, item_sync, the_name.the_field_sync, the_bounds.the_sync, the_entry.the_sync, sendable, crosses) depth 20 fits 6000
