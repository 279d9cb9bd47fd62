-- A catalogue may go to another thread, and be shared.
use denote.Param.Send.{IsSend, IsSync, sendable}
use Rattle.std.proofs.Crossing.{crosses}
use Rattle.sc_load.proofs.Crossing.{load_field_send, load_field_sync}
use Rattle.sc_shelf.proofs.Crossing.{collections_send, collections_sync, parts_send, parts_sync}
use Rattle.sc_index.proofs.Crossing.{index_field_send, index_field_sync}
use Rattle.sc_catalog.specs.contracts.entry.Entry as entry
use Rattle.sc_catalog.specs.contracts.catalogue.Catalogue as catalogue

pub entry_send : IsSend entry.the_row
entry_send = search (load_field_send, sendable, crosses) depth 20 fits 6000

pub entry_sync : IsSync entry.the_row
entry_sync = search (load_field_sync, sendable, crosses) depth 20 fits 6000

pub catalogue_send : IsSend catalogue.the_row
catalogue_send = search (entry_send, collections_send, parts_send, index_field_send, sendable, crosses) depth 20 fits 6000

pub catalogue_sync : IsSync catalogue.the_row
catalogue_sync = search (entry_sync, collections_sync, parts_sync, index_field_sync, sendable, crosses) depth 20 fits 6000
