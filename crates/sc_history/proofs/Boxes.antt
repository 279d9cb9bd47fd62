-- The place of an item is a box of the world.
use Rattle.std.proofs.Common.{ℕ, List, Option, Some, None}
use Rattle.sc_json.specs.declared.tree.Json.{Json}
use Rattle.sc_json.specs.Member.{member_value}
use Rattle.sc_geom.specs.declared.point.Pt.{Pt}
use Rattle.sc_geom.specs.Shapes.{Shapes}
use Rattle.sc_item.specs.Words.{geometry_name}
use Rattle.sc_item.specs.Shape.{IsShape}
use Rattle.sc_item.specs.Feature.{Feature, IsShaped}
use Rattle.sc_item.specs.Reading.{IsItem}
use Rattle.sc_bounds.specs.Places.{IsPlace}
use Rattle.sc_part.proofs.Boxes.{shaped_box}

-- the geometry that a value is
shaped : (value : Option Json) (geom : Option (Shapes Pt)) → IsShape value geom → IsShaped geom
shaped None geom s = absurd s
shaped (Some value) None s = tt
shaped (Some value) (Some g) s = s.1.sound

pub item_box : (collection : List ℕ) (tree : Json) (item : Feature) → IsItem collection tree item → IsPlace item.place
item_box collection tree item is = shaped_box item.geom item.place (shaped (member_value tree geometry_name) item.geom is.parts.shape) is.place_is
