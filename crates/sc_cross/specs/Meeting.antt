-- Whether two geometries meet, as a test that computes: the same six ways as in the relation.
use Rattle.std.specs.Prelude.{pos, ◌%◌, ◌==◌, Bool, ◌&&◌, ◌||◌, not, int_lt, List}
use Rattle.std.specs.Ordering.{int_eq}
use Rattle.std.specs.List.{list_any, count_by}
use Rattle.sc_geom.specs.declared.point.Pt.{Pt}
use Rattle.sc_geom.specs.Shapes.{Shapes, positions_of}
use Rattle.sc_geom.specs.Rectangle.{has_position, overlap}
use Rattle.sc_cross.specs.declared.segment.Segment.{Segment}
use Rattle.sc_cross.specs.Segment.{side, sides_of}
use Rattle.sc_cross.specs.Area.{is_crossed, edges_of}
use Rattle.sc_cross.specs.Meets.{segments_in}

abbrev pub some_pair : {A B : Type 0} → (A → B → Bool) → List A → List B → Bool
some_pair r xs ys = list_any (λ x. list_any (r x) ys) xs

abbrev pub is_same : Pt → Pt → Bool
is_same p q = int_eq p.x q.x && int_eq p.y q.y

abbrev pub is_on : Pt → Segment → Bool
is_on p s = has_position (sides_of s) p && int_eq (side s p) (pos 0)

abbrev pub is_one_sided : Segment → Segment → Bool
is_one_sided s t =
    (int_lt (pos 0) (side s t.from) && int_lt (pos 0) (side s t.to)) || (int_lt (side s t.from) (pos 0) && int_lt (side s t.to) (pos 0))

abbrev pub touch : Segment → Segment → Bool
touch s t = overlap (sides_of s) (sides_of t) && (not (is_one_sided s t) && not (is_one_sided t s))

abbrev pub is_inside : Pt → List (List Pt) → Bool
is_inside p rings = count_by (is_crossed p) (edges_of rings) % 2 == 1

unfoldable pub do_meet : Shapes Pt → Shapes Pt → Bool
do_meet a b =
    some_pair is_same a.points b.points || (some_pair is_on a.points (segments_in b) || (some_pair is_on b.points (segments_in a)
    || (some_pair touch (segments_in a) (segments_in b) || (some_pair is_inside (positions_of a) b.areas || some_pair is_inside (positions_of b) a.areas))))
