-- What is computed once for a search.
use Rattle.std.specs.Prelude.{ℕ, List, Option}
use Rattle.sc_geom.specs.Rectangle.{Rectangle}
use Rattle.sc_item.specs.Feature.{IsPlaceOf}
use Rattle.sc_expr.specs.declared.select.Select.{Select}
use Rattle.sc_eval.specs.Names.{AreNamesOf}

-- the table has the ids, and the place is the smallest box of the shape
pub record IsPrepared (select : Select) (ids : Option (List (List ℕ))) (place : Option Rectangle) : Type 0 where
  pub ids_are : AreNamesOf ids select.ids
  pub place_is : IsPlaceOf select.shape place
