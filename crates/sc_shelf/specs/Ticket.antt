-- What contracts see of a ticket, which is a version of a part as it was looked at, and of what tightening makes of it.
use Rattle.std.specs.Prelude.{ℕ}
use Rattle.sc_cut.specs.declared.name.PartName.{PartName}
use Rattle.sc_bounds.specs.Extent.{Extent}
use Rattle.sc_part.specs.Version.{Version}
use Rattle.sc_history.specs.Names.{hull_of}
use Rattle.sc_history.specs.Part.{Part}

-- a part's version
abbrev pub version_of : Part → Version
version_of part = record { name = part.name; stamp = part.stamp; items = part.items }

-- a hull of the items that a part had at a stamp
pub record Hull : Type 0 where
  pub name : PartName
  pub stamp : ℕ
  pub bounds : Extent

-- the hull of a version's items
abbrev pub hull_at : Version → Hull
hull_at version = record { name = version.name; stamp = version.stamp; bounds = hull_of version.items }
