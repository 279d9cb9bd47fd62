-- What contracts see of a version of a part: the part's name, a stamp, and its items in the order of a scan.
use Rattle.std.specs.Prelude.{ℕ, List, All}
use Rattle.sc_item.specs.Feature.{Feature}
use Rattle.sc_item.specs.Feature as items
use Rattle.sc_item.specs.Names.{AreApart}
use Rattle.sc_cut.specs.declared.name.PartName.{PartName}
use Rattle.sc_part.specs.Scan.{Fits, IsScanned}

pub record Version : Type 0 where
  pub name : PartName
  pub stamp : ℕ
  pub items : List Feature

-- what every version keeps: each of its items keeps what items keep and fits its name, no two have one name, and they stand in the order of a scan
pub record IsKept (v : Version) : Type 0 where
  pub each : All items.IsKept v.items
  pub fits : All (Fits v.name) v.items
  pub apart : AreApart v.items
  pub ordered : IsScanned v.items
