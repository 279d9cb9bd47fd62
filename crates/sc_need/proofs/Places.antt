-- What a geometry that is met says of an item's place, and which parts may match.
use Rattle.std.proofs.Common.{◌≡◌, ◌⊎◌, ℕ, ℤ, ◌≤ℤ◌, Bool, true, false, cond, ◌&&◌, ◌||◌, List, [], ◌∷◌, refl, sym, ap, ◌∙◌, subst, arith, true≢false, All}
use Rattle.std.specs.Prelude.{Option, Some, None, unwrap_or}
use Rattle.std.specs.List.{AllByRecursion, list_any, list_all}
use Rattle.std.specs.Int.{int_min, int_max}
use Rattle.std.proofs.lemmas.Int.{ints, clamps}
use Rattle.std.proofs.lemmas.List.Elements.{All-from_recursion}
use Rattle.sc_geom.specs.declared.point.Pt.{Pt}
use Rattle.sc_geom.specs.Shapes.{Shapes, positions_of}
use Rattle.sc_geom.specs.Rectangle.{Rectangle, Holds, IsSmallest, overlap, smallest}
use Rattle.sc_geom.specs.Geometry.{IsGeometry}
use Rattle.sc_cross.specs.Meets.{Meets as DoMeet}
use Rattle.sc_geom.specs.Rectangle.{AreOverlapping}
use Rattle.sc_cross.proofs.Meetings.{meeting_overlaps, meets_turned}
use Rattle.sc_item.specs.Feature.{Feature, IsPlaceOf, IsShaped}
use Rattle.sc_expr.specs.declared.scalar.Shape.{Shape}
use Rattle.sc_expr.specs.declared.scalar.Shape.TheVariants as shapes
use Rattle.sc_expr.specs.declared.expr.Truth3.{Truth3}
use Rattle.sc_expr.specs.declared.expr.Truth3.TheVariants.{True, False, Unknown}
use Rattle.sc_sort.specs.Named.{Named, Id, Collection, Geometry, Time, Member, named}
use Rattle.sc_eval.specs.Comparison.{known}
use Rattle.sc_cross.specs.Meeting.{do_meet}
use Rattle.sc_eval.specs.Meaning.{met, shape_in, shape_named}
use Rattle.sc_cross.proofs.Decided.{meet_test}
use Rattle.sc_geom.proofs.Deciding.{overlap_test}
use Rattle.sc_geom.proofs.Smallest.{smallest_is}
use Rattle.sc_need.specs.declared.need.Need.{Need}
use Rattle.sc_need.specs.Need.{free, of_geometry, need_named, meets_need}
use Rattle.sc_need.specs.Match.{may_touch, Satisfies}
use Rattle.sc_need.proofs.Predicates.{meets_free}

known_true : (b : Bool) → known b ≡ True → b ≡ true
known_true true e = refl
known_true false e = cc

-- an item whose geometry meets another touches the other's box
pub touched : (place : Option Rectangle) (h g : Shapes Pt) → IsPlaceOf (Some h) place → IsGeometry h → IsGeometry g → do_meet h g ≡ true → (item : Feature) → item.place ≡ place → Satisfies (of_geometry g) item
touched None h g placed is_h is_g e item at = absurd placed
touched (Some r) h g placed is_h is_g e item place =
    let over : AreOverlapping r (smallest g) = meeting_overlaps r (smallest g) h g is_h is_g placed.holds (smallest_is g is_g).holds ((meet_test h g).0 e) in
    let test : overlap r (smallest g) ≡ true = (overlap_test r (smallest g)).1 over in
    let touch : may_touch item.place (smallest g ∷ []) ≡ true = subst (λ o. may_touch o (smallest g ∷ []) ≡ true) (sym place) (ap (λ b. b || false) test) in
    record { listed = refl; start = refl; end = refl; place = (touch, tt) }

abbrev pub IsShapeKept : Shape → Type 0
IsShapeKept (shapes.Prop name) = Unit {0}
IsShapeKept (shapes.Geom g) = IsGeometry g

turned_meet : (g h : Shapes Pt) → do_meet g h ≡ true → do_meet h g ≡ true
turned_meet g h e = (meet_test h g).1 (meets_turned g h ((meet_test g h).0 e))

module _ (item : Feature) (placed : IsPlaceOf item.geom item.place) (shaped : IsShaped item.geom) where
  own_left : (geom : Option (Shapes Pt)) → item.geom ≡ geom → (g : Shapes Pt) → IsGeometry g → met geom (Some g) ≡ True → Satisfies (of_geometry g) item
  own_left None is g is_g e = cc
  own_left (Some h) is g is_g e =
      touched item.place h g (subst (λ o. IsPlaceOf o item.place) is placed) (subst IsShaped is shaped) is_g (known_true (do_meet h g) e) item refl

  own_right : (geom : Option (Shapes Pt)) → item.geom ≡ geom → (g : Shapes Pt) → IsGeometry g → met (Some g) geom ≡ True → Satisfies (of_geometry g) item
  own_right None is g is_g e = cc
  own_right (Some h) is g is_g e =
      touched item.place h g (subst (λ o. IsPlaceOf o item.place) is placed) (subst IsShaped is shaped) is_g (turned_meet g h (known_true (do_meet g h) e)) item refl

  named_left : (n : Named) (g : Shapes Pt) → IsGeometry g → met (shape_named n item) (Some g) ≡ True → Satisfies (need_named n g) item
  named_left Geometry g is_g e = own_left item.geom refl g is_g e
  named_left Id g is_g e = meets_free item
  named_left Collection g is_g e = meets_free item
  named_left Time g is_g e = meets_free item
  named_left (Member name) g is_g e = meets_free item

  named_right : (n : Named) (g : Shapes Pt) → IsGeometry g → met (Some g) (shape_named n item) ≡ True → Satisfies (need_named n g) item
  named_right Geometry g is_g e = own_right item.geom refl g is_g e
  named_right Id g is_g e = meets_free item
  named_right Collection g is_g e = meets_free item
  named_right Time g is_g e = meets_free item
  named_right (Member name) g is_g e = meets_free item

  pub met_meets : (left right : Shape) → IsShapeKept left → IsShapeKept right → met (shape_in item left) (shape_in item right) ≡ True → Satisfies (meets_need left right) item
  met_meets (shapes.Prop name) (shapes.Prop other) l r e = meets_free item
  met_meets (shapes.Geom g) (shapes.Geom h) l r e = meets_free item
  met_meets (shapes.Prop name) (shapes.Geom g) l r e = named_left (named name) g r e
  met_meets (shapes.Geom g) (shapes.Prop name) l r e = named_right (named name) g l e
