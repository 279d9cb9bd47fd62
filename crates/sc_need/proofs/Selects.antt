-- What a selected item has: each part of a search, and all of them.
use Rattle.std.proofs.Common.{◌≡◌, ℕ, ℤ, Bool, true, false, ◌&&◌, List, [], ◌∷◌, refl, sym, ap, ◌∙◌, subst, All, int_le}
use Rattle.std.specs.Prelude.{Option, Some, None, option_map}
use Rattle.std.specs.List.{list_any}
use Rattle.sc_time.specs.Ends.{Ends}
use Rattle.sc_geom.specs.declared.point.Pt.{Pt}
use Rattle.sc_geom.specs.declared.rects.Rects.{Rects}
use Rattle.sc_geom.specs.Shapes.{Shapes, positions_of}
use Rattle.sc_geom.specs.Rectangle.{Rectangle}
use Rattle.sc_geom.specs.Rects.{geometry_of, rectangles_in}
use Rattle.sc_item.specs.Feature.{Feature, IsPlaceOf, IsShaped}
use Rattle.sc_expr.specs.declared.expr.Expr.{Expr}
use Rattle.sc_expr.specs.declared.expr.Truth3.{Truth3}
use Rattle.sc_expr.specs.declared.expr.Truth3.TheVariants.{True, False, Unknown}
use Rattle.sc_expr.specs.declared.select.Select.{Select}
use Rattle.sc_cross.specs.Meeting.{do_meet}
use Rattle.sc_cross.proofs.Decided.{meet_test}
use Rattle.sc_eval.specs.Meaning.{truth_in}
use Rattle.sc_eval.specs.Selection.{is_true, is_listed, is_from, is_to, is_during, meets_geometry, meets_shape, meets_rects, is_true_of, is_selected}
use Rattle.sc_need.specs.declared.need.Need.{Need}
use Rattle.sc_need.specs.Need.{free, both, of_geometry, need_of_names, need_of_time, need_of_rects, need_of_shape, need_of_filter, need_of}
use Rattle.sc_need.specs.Match.{from_low, to_high, may_touch, AreBoxes, IsKeptFilter, IsKeptSelect, Satisfies}
use Rattle.sc_need.proofs.Comparing.{and_both}
use Rattle.sc_need.proofs.Predicates.{meets_free}
use Rattle.sc_need.proofs.Places.{touched}
use Rattle.sc_need.proofs.Boxed.{touches_one}
use Rattle.sc_need.proofs.Sound.{meets_both, need_holds}

and_left : (a b : Bool) → (a && b) ≡ true → a ≡ true
and_left true b e = refl
and_left false b e = e

and_right : (a b : Bool) → (a && b) ≡ true → b ≡ true
and_right true b e = e
and_right false b e = cc

low_end : (from : Option ℤ) (at : ℤ) → is_from from at ≡ true → (from_low from at && true) ≡ true
low_end None at e = refl
low_end (Some first) at e = and_both (int_le first at) true e refl

high_end : (to : Option ℤ) (at : ℤ) → is_to to at ≡ true → to_high to at ≡ true
high_end None at e = refl
high_end (Some last) at e = e

truth_is : (t : Truth3) → is_true t ≡ true → t ≡ True
truth_is True e = refl
truth_is False e = cc
truth_is Unknown e = cc

-- the parts of a search but the ids
each_part : (a b c d e f : Bool) → (a && (b && (c && (d && (e && f))))) ≡ true → (a ≡ true) × ((c ≡ true) × ((d ≡ true) × ((e ≡ true) × (f ≡ true))))
each_part a b c d e f h =
    let behind_a = and_right a (b && (c && (d && (e && f)))) h in
    let behind_b = and_right b (c && (d && (e && f))) behind_a in
    let behind_c = and_right c (d && (e && f)) behind_b in
    let behind_d = and_right d (e && f) behind_c in
    (and_left a (b && (c && (d && (e && f)))) h, (and_left c (d && (e && f)) behind_b, (and_left d (e && f) behind_c, (and_left e f behind_d, and_right e f behind_d))))

module _ (item : Feature) (placed : IsPlaceOf item.geom item.place) (shaped : IsShaped item.geom) where
  names_satisfy : (names : Option (List (List ℕ))) → is_listed names item.collection ≡ true → Satisfies (need_of_names names) item
  names_satisfy None e = meets_free item
  names_satisfy (Some names) e = record { listed = e; start = refl; end = refl; place = tt }

  time_satisfies : (range : Option Ends) → is_during range item ≡ true → Satisfies (need_of_time range) item
  time_satisfies None e = meets_free item
  time_satisfies (Some range) e = record {
    listed = refl;
    start = high_end range.to item.start (and_right (is_from range.from item.end) (is_to range.to item.start) e);
    end = low_end range.from item.end (and_left (is_from range.from item.end) (is_to range.to item.start) e);
    place = tt;
  }

  rects_at : (geom : Option (Shapes Pt)) → item.geom ≡ geom → (place : Option Rectangle) → item.place ≡ place → (rects : Rects) → AreBoxes (Some rects) → meets_geometry (geometry_of rects) geom ≡ true → may_touch place (rectangles_in rects) ≡ true
  rects_at None is place at rects kept e = cc
  rects_at (Some h) is None at rects kept e = absurd (subst (λ o. IsPlaceOf o None) is (subst (IsPlaceOf item.geom) at placed))
  rects_at (Some h) is (Some r) at rects kept e =
      touches_one r rects.first rects.second h (subst IsShaped is shaped) ((subst (λ o. IsPlaceOf o (Some r)) is (subst (IsPlaceOf item.geom) at placed)).holds) kept.0 kept.1
      ((meet_test h (geometry_of rects)).0 e)

  rects_satisfy : (rects : Option Rects) → AreBoxes rects → meets_rects rects item.geom ≡ true → Satisfies (need_of_rects rects) item
  rects_satisfy None kept e = meets_free item
  rects_satisfy (Some rects) kept e = record { listed = refl; start = refl; end = refl; place = (rects_at item.geom refl item.place refl rects kept e, tt) }

  shape_at : (geom : Option (Shapes Pt)) → item.geom ≡ geom → (g : Shapes Pt) → IsShaped (Some g) → meets_geometry g geom ≡ true → Satisfies (of_geometry g) item
  shape_at None is g is_g e = cc
  shape_at (Some h) is g is_g e = touched item.place h g (subst (λ o. IsPlaceOf o item.place) is placed) (subst IsShaped is shaped) is_g e item refl

  shape_satisfies : (shape : Option (Shapes Pt)) → IsShaped shape → meets_shape shape item.geom ≡ true → Satisfies (need_of_shape shape) item
  shape_satisfies None kept e = meets_free item
  shape_satisfies (Some g) kept e = shape_at item.geom refl g kept e

  filter_satisfies : (filter : Option Expr) → IsKeptFilter filter → is_true_of filter item ≡ true → Satisfies (need_of_filter filter) item
  filter_satisfies None kept e = meets_free item
  filter_satisfies (Some expr) kept e = need_holds item placed shaped expr kept (truth_is (truth_in item expr) e)

  pub selected_satisfies : (select : Select) → IsKeptSelect select → is_selected select item ≡ true → Satisfies (need_of select) item
  unfolding is_selected need_of
  selected_satisfies select kept e =
      let parts = each_part (is_listed select.collections item.collection) (is_listed select.ids item.id) (is_during select.time item) (meets_rects select.rects item.geom) (meets_shape select.shape item.geom) (is_true_of select.filter item) e in
      let names = need_of_names select.collections in
      let time = need_of_time select.time in
      let rects = need_of_rects select.rects in
      let shape = need_of_shape select.shape in
      let filter = need_of_filter select.filter in
      let one = meets_both free names item (meets_free item) (names_satisfy select.collections parts.0) in
      let two = meets_both (both free names) time item one (time_satisfies select.time parts.1.0) in
      let three = meets_both (both (both free names) time) rects item two (rects_satisfy select.rects kept.rects parts.1.1.0) in
      let four = meets_both (both (both (both free names) time) rects) shape item three (shape_satisfies select.shape kept.shape parts.1.1.1.0) in
      meets_both (both (both (both (both free names) time) rects) shape) filter item four (filter_satisfies select.filter kept.filter parts.1.1.1.1)
