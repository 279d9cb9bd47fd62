-- What a path and an area are after one more position and one more ring.
use Rattle.std.proofs.Common.{◌≡◌, ℕ, ◌+◌, ◌≤◌, Bool, true, false, ◌||◌, List, [], ◌∷◌, ◌++◌, ◌⊎◌, inl, inr, length, map, Option, Some, None, refl, ap, sym, subst, ◌∙◌, arith, length-append}
use Rattle.std.specs.Prelude.{All, is_none, is_some, not}
use Rattle.std.specs.List.{list_any}
use Rattle.std.proofs.Math.Bool.{or-false}
use Rattle.std.proofs.lemmas.List.{map-append, length-map}
use Rattle.std.proofs.lemmas.List.Folds.{list_any-append}
use Rattle.std.proofs.lemmas.List.Elements.{All-push, All-append}
use Rattle.sc_geom.specs.declared.point.Pt.{Pt}
use Rattle.sc_geom.specs.declared.path.Path.{Path}
use Rattle.sc_geom.specs.declared.area.Area.{Area}
use Rattle.sc_geom.specs.Point.{IsInWorld}
use Rattle.sc_geom.specs.Shapes.{joined, first_of}
use Rattle.sc_geom.specs.Sketch.{place_at, is_open}
use Rattle.sc_geom.specs.Building.{settled, IsPath, IsArea}
use Rattle.sc_geom.proofs.Lists.{last_of-push, joined-push}

pub any_push : {A : Type 0} (p : A → Bool) (xs : List A) (x : A) → list_any p (xs ++ x ∷ []) ≡ (list_any p xs || p x)
any_push p xs x = list_any-append p xs (x ∷ []) ∙ ap (λ b. list_any p xs || b) (or-false (p x))

pub any_joined-push : {A : Type 0} (p : A → Bool) (xs : List (List A)) (x : List A) → list_any p (joined (xs ++ x ∷ [])) ≡ (list_any p (joined xs) || list_any p x)
any_joined-push p xs x = ap (list_any p) (joined-push xs x) ∙ list_any-append p (joined xs) x

pub length_joined-push : {A : Type 0} (xs : List (List A)) (x : List A) → length (joined (xs ++ x ∷ [])) ≡ length (joined xs) + length x
length_joined-push xs x = ap length (joined-push xs x) ∙ length-append (joined xs) x

-- the first is set by the first push, and kept by each later one
first_pushed : (places : List (Option Pt)) (place first first' : Option Pt) → first ≡ place_at (first_of places) →
    ((length places ≡ 0) × (first' ≡ place)) ⊎ ((1 ≤ length places) × (first' ≡ first)) →
    first' ≡ place_at (first_of (places ++ place ∷ []))
first_pushed [] place first first' is (inl h) = h.1
first_pushed [] place first first' is (inr h) = absurd (omega (arith, h.0))
first_pushed (p ∷ ps) place first first' is (inl h) = absurd (omega (arith, h.0))
first_pushed (p ∷ ps) place first first' is (inr h) = h.1 ∙ is

pub path_pushed : (path path' : Path) (places : List (Option Pt)) (place : Option Pt) → IsPath path places →
    path'.points.items ≡ path.points.items ++ settled place ∷ [] →
    ((length path.points.items ≡ 0) × (path'.first ≡ place)) ⊎ ((1 ≤ length path.points.items) × (path'.first ≡ path.first)) →
    path'.last ≡ place → path'.outside ≡ (path.outside || is_none place) → IsInWorld (settled place) → IsPath path' (places ++ place ∷ [])
path_pushed path path' places place is points first last outside world =
    let same_length : length path.points.items ≡ length places = ap length is.points_are ∙ length-map places settled in
    record {
      points_are = points ∙ ap (λ (l : List Pt). l ++ settled place ∷ []) is.points_are ∙ sym (map-append settled places (place ∷ []));
      first_is = first_pushed places place path.first path'.first is.first_is (elim first [
        | inl h ↦ inl (sym same_length ∙ h.0, h.1)
        | inr h ↦ inr (subst (λ (n : ℕ). 1 ≤ n) same_length h.0, h.1)
      ]);
      last_is = last ∙ sym (ap place_at (last_of-push places place));
      outside_is = outside ∙ ap (λ (b : Bool). b || is_none place) is.outside_is ∙ sym (any_push is_none places place);
      in_world = subst (All IsInWorld) (sym points) (All-push IsInWorld path.points.items (settled place) is.in_world world);
    }

pub area_pushed : (area area' : Area) (ring : Path) (rings : List (List (Option Pt))) (places : List (Option Pt)) → IsArea area rings → IsPath ring places →
    area'.rings.items ≡ area.rings.items ++ ring.points.items ∷ [] → area'.count ≡ area.count + length places →
    area'.outside ≡ (area.outside || ring.outside) → area'.has_open_ring ≡ (area.has_open_ring || is_open places) → IsArea area' (rings ++ places ∷ [])
area_pushed area area' ring rings places is path items count outside opened =
    record {
      rings_are = items ∙ ap (λ (l : List (List Pt)). l ++ ring.points.items ∷ []) is.rings_are ∙ ap (λ (p : List Pt). map (map settled) rings ++ p ∷ []) path.points_are ∙ sym (map-append (map settled) rings (places ∷ []));
      count_is = count ∙ ap (λ (n : ℕ). n + length places) is.count_is ∙ sym (length_joined-push rings places);
      outside_is = outside ∙ ap (λ (b : Bool). b || ring.outside) is.outside_is ∙ ap (λ (b : Bool). list_any is_none (joined rings) || b) path.outside_is ∙ sym (any_joined-push is_none rings places);
      open_is = opened ∙ ap (λ (b : Bool). b || is_open places) is.open_is ∙ sym (any_push is_open rings places);
      in_world = subst (λ (l : List (List Pt)). All IsInWorld (joined l)) (sym items) (subst (All IsInWorld) (sym (joined-push area.rings.items ring.points.items)) (All-append IsInWorld (joined area.rings.items) ring.points.items is.in_world path.in_world));
    }

pub is_none_from : (place : Option Pt) (b : Bool) → is_some place ≡ not b → b ≡ is_none place
is_none_from None true h = refl
is_none_from None false h = absurd cc
is_none_from (Some p) true h = absurd cc
is_none_from (Some p) false h = refl
