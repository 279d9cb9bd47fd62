-- Parts, collections and snapshots may go to another thread, and be shared. What stands behind a shared pointer must be both, so each of these types has
-- lemmas of its own: a search down through them all would take twice as long with every pointer.
use denote.Param.Send.{IsSend, IsSync, sendable}
use Rattle.std.proofs.Crossing.{crosses}
use Rattle.sc_base.proofs.text.Text.TheSendSync as the_text
use Rattle.sc_cut.proofs.cut.Cut.TheSendSync as the_cut
use Rattle.sc_bounds.proofs.bounds.Bounds.TheSendSync as the_bounds
use Rattle.sc_json.proofs.Crossing.{json_field_send, json_field_sync}
use Rattle.sc_part.proofs.Crossing.{part_send, part_sync}
use Rattle.sc_history.proofs.addition.Addition.TheSendSync as the_addition
use Rattle.sc_shelf.specs.contracts.version.SharedVersion as version
use Rattle.sc_shelf.specs.contracts.kept.Shelf as shelf
use Rattle.sc_shelf.specs.contracts.kept.KeptPart as kept
use Rattle.sc_shelf.specs.contracts.parts.Parts as parts
use Rattle.sc_shelf.specs.contracts.collections.Described as described
use Rattle.sc_shelf.specs.contracts.collections.KeptCollection as collection
use Rattle.sc_shelf.specs.contracts.collections.Collections as collections
use Rattle.sc_shelf.specs.contracts.snapshot.Snapshot as snapshot

pub version_send : IsSend version.the_row
version_send = search (part_send, part_sync, sendable, crosses) depth 20 fits 6000

pub version_sync : IsSync version.the_row
version_sync = search (part_send, part_sync, sendable, crosses) depth 20 fits 6000

pub shelf_send : IsSend shelf.the_row
shelf_send = search (version_send, the_bounds.the_send, the_addition.the_send, sendable, crosses) depth 20 fits 6000

pub shelf_sync : IsSync shelf.the_row
shelf_sync = search (version_sync, the_bounds.the_sync, the_addition.the_sync, sendable, crosses) depth 20 fits 6000

pub kept_send : IsSend kept.the_row
kept_send = search (shelf_send, shelf_sync, sendable, crosses) depth 20 fits 6000

pub kept_sync : IsSync kept.the_row
kept_sync = search (shelf_send, shelf_sync, sendable, crosses) depth 20 fits 6000

pub parts_send : IsSend parts.the_row
parts_send = search (kept_send, kept_sync, sendable, crosses) depth 20 fits 6000

pub parts_sync : IsSync parts.the_row
parts_sync = search (kept_send, kept_sync, sendable, crosses) depth 20 fits 6000

pub described_send : IsSend described.the_row
described_send = search (json_field_send, the_text.the_send, the_cut.the_field_send, sendable, crosses) depth 20 fits 6000

pub described_sync : IsSync described.the_row
described_sync = search (json_field_sync, the_text.the_sync, the_cut.the_field_sync, sendable, crosses) depth 20 fits 6000

pub collection_send : IsSend collection.the_row
collection_send = search (described_send, described_sync, sendable, crosses) depth 20 fits 6000

pub collection_sync : IsSync collection.the_row
collection_sync = search (described_send, described_sync, sendable, crosses) depth 20 fits 6000

pub collections_send : IsSend collections.the_row
collections_send = search (collection_send, collection_sync, sendable, crosses) depth 20 fits 6000

pub collections_sync : IsSync collections.the_row
collections_sync = search (collection_send, collection_sync, sendable, crosses) depth 20 fits 6000

pub snapshot_send : IsSend snapshot.the_row
snapshot_send = search (collections_send, parts_send, sendable, crosses) depth 20 fits 6000

pub snapshot_sync : IsSync snapshot.the_row
snapshot_sync = search (collections_sync, parts_sync, sendable, crosses) depth 20 fits 6000
