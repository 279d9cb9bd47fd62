-- What contracts see of a collection that is kept.
use Rattle.sc_history.specs.Content.{Collection}
use Rattle.sc_shelf.specs.declared.collections.Described.{Described}

abbrev pub collection_of : Described → Collection
collection_of described = record { id = described.id; cut = described.cut; tree = described.tree }
