-- Notices may be shared between threads, and a pass of them may go to another.
use denote.Ref.{NamedLft}
use denote.Param.Send.{IsSend, IsSync, sendable}
use Rattle.std.proofs.Crossing.{crosses}
use Rattle.atomic_table.proofs.shared.Seat.TheSendSync as the_seat
use Rattle.atomic_table.proofs.shared.Shared.TheSendSync as the_shared
use Rattle.atomic_table.proofs.owned.Table.TheSendSync as the_table
use Rattle.crossbeam_queue.proofs.array_queue.Slotted.TheSendSync as the_slotted
use Rattle.sc_cut.proofs.name.PartName.TheSendSync as the_name
use Rattle.sc_notice.proofs.notice.Notice.TheSendSync as the_notice
use Rattle.sc_notice.specs.contracts.notice.Notice as notice
use Rattle.sc_notice.specs.contracts.notices.Notices as notices
use Rattle.sc_notice.specs.contracts.card.NoticeCard as card
use Rattle.sc_notice.specs.contracts.pass.NoticePass as pass

pub notice_send : IsSend notice.the_row
notice_send = search (the_name.the_field_send, sendable, crosses) depth 20 fits 6000

pub card_send : IsSend card.the_row
card_send = search (notice_send, the_seat.the_send, sendable, crosses) depth 20 fits 6000

pub notices_sync : IsSync notices.the_row
notices_sync = search (notice_send, the_slotted.the_field_sync, the_table.the_field_sync, the_shared.the_sync, sendable, crosses) depth 20 fits 6000

pub notice_pass_send : (l : NamedLft) → IsSend (pass.the_row l)
notice_pass_send l = search (card_send, notices_sync, sendable, crosses) depth 20 fits 6000
