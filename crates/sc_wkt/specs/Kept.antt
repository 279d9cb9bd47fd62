-- What is kept of a drawing in memory.
use Rattle.std.specs.Prelude.{◌≡◌, length}
use Rattle.sc_geom.specs.Building.{IsPath, IsArea, IsDraft}
use Rattle.sc_wkt.specs.declared.drawing.Drawing as kept
use Rattle.sc_wkt.specs.Drawing.{Drawing}

pub record IsDrawing (drawing : kept.Drawing) (d : Drawing) : Type 0 where
  pub number_is : drawing.number ≡ d.number
  pub longitude_is : drawing.longitude ≡ d.longitude
  pub path_is : IsPath drawing.path d.path
  pub rings_are : IsArea drawing.area d.rings
  pub rings_counted : drawing.rings ≡ length d.rings
  pub sketch_is : IsDraft drawing.draft d.sketch
  pub outside_is : drawing.is_outside ≡ d.is_outside
  pub short_is : drawing.is_short ≡ d.is_short
