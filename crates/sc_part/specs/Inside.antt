-- What a version keeps beside its items: the index of their ids, and their hull. No public clause cites it.
use Rattle.std.specs.Prelude.{List, map}
use Rattle.std.specs.declared.alloc.Global.{Global}
use Rattle.std.specs.declared.sync.Arc.{Arc}
use Rattle.sc_item.specs.Feature.{Feature}
use Rattle.sc_bounds.specs.Extent.{Extent}
use Rattle.sc_bounds.specs.Sets.{IsHull}
use Rattle.sc_part.specs.declared.entry.Entry.{Entry}
use Rattle.sc_part.specs.Entry.{ids_of}
use Rattle.sc_part.specs.Index.{IsIndex}
use Rattle.sc_part.specs.Scan.{reach}
use Rattle.sc_part.specs.Version.{Version, IsKept}

pub record IsSound (v : Version) (items : List (Arc Feature Global)) (entries : List Entry) (bounds : Extent) : Type 0 where
  pub kept : IsKept v
  pub index : IsIndex (ids_of items) entries
  pub hull : IsHull bounds (map reach v.items)
