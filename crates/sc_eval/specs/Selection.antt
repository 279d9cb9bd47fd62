-- Which items a search selects: those of which every part that is there holds (STAC API, Item Search).
use Rattle.std.specs.Prelude.{ℕ, ℤ, Bool, true, false, ◌&&◌, int_le, List, Option, Some, None, option_map}
use Rattle.std.specs.List.{list_any}
use Rattle.std.specs.Str.{bytes_eq}
use Rattle.sc_geom.specs.declared.point.Pt.{Pt}
use Rattle.sc_geom.specs.declared.rects.Rects.{Rects}
use Rattle.sc_geom.specs.Shapes.{Shapes}
use Rattle.sc_geom.specs.Rects.{geometry_of}
use Rattle.sc_time.specs.Ends.{Ends}
use Rattle.sc_item.specs.Feature.{Feature}
use Rattle.sc_expr.specs.declared.expr.Expr.{Expr}
use Rattle.sc_expr.specs.declared.expr.Truth3.{Truth3}
use Rattle.sc_expr.specs.declared.expr.Truth3.TheVariants.{True, False, Unknown}
use Rattle.sc_expr.specs.declared.select.Select.{Select}
use Rattle.sc_cross.specs.Meeting.{do_meet}
use Rattle.sc_eval.specs.Meaning.{folds, truth_in}

abbrev pub is_true : Truth3 → Bool
is_true True = true
is_true False = false
is_true Unknown = false

abbrev pub is_one_of : List (List ℕ) → List ℕ → Bool
is_one_of names name = list_any (bytes_eq name) names

-- one of the names, where there is a list
abbrev pub is_listed : Option (List (List ℕ)) → List ℕ → Bool
is_listed None name = true
is_listed (Some names) name = is_one_of names name

abbrev pub is_from : Option ℤ → ℤ → Bool
is_from None at = true
is_from (Some first) at = int_le first at

abbrev pub is_to : Option ℤ → ℤ → Bool
is_to None at = true
is_to (Some last) at = int_le at last

-- the item's time and the range have an instant in common
abbrev pub is_during : Option Ends → Feature → Bool
is_during None item = true
is_during (Some range) item = is_from range.from item.end && is_to range.to item.start

abbrev pub meets_geometry : Shapes Pt → Option (Shapes Pt) → Bool
meets_geometry g None = false
meets_geometry g (Some h) = do_meet h g

abbrev pub meets_shape : Option (Shapes Pt) → Option (Shapes Pt) → Bool
meets_shape None geom = true
meets_shape (Some g) geom = meets_geometry g geom

abbrev pub meets_rects : Option Rects → Option (Shapes Pt) → Bool
meets_rects rects geom = meets_shape (option_map geometry_of rects) geom

abbrev pub is_true_of : Option Expr → Feature → Bool
is_true_of None item = true
is_true_of (Some filter) item = is_true (truth_in item filter)

unfoldable pub is_selected : Select → Feature → Bool
is_selected select item =
    is_listed select.collections item.collection && (is_listed select.ids item.id && (is_during select.time item
    && (meets_rects select.rects item.geom && (meets_shape select.shape item.geom && is_true_of select.filter item))))

-- whether CASEI stands in a filter, where there is one
abbrev pub folds_if_there : Option Expr → Bool
folds_if_there None = false
folds_if_there (Some filter) = folds filter
