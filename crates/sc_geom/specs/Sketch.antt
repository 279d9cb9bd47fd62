-- Shapes whose positions may lie outside the world, where they are none.
use Rattle.std.specs.Prelude.{◌&&◌, ◌||◌, not, nat_lt, is_none, Bool, false, List, length, Option, Some, None}
use Rattle.std.specs.Ordering.{int_eq}
use Rattle.std.specs.List.{list_any}
use Rattle.sc_geom.specs.declared.point.Pt.{Pt}
use Rattle.sc_geom.specs.Shapes.{Shapes, positions_of, rings_of, first_of, last_of}

abbrev pub Sketch : Type 0
Sketch = Shapes (Option Pt)

abbrev pub is_same : Pt → Pt → Bool
is_same p q = int_eq p.x q.x && int_eq p.y q.y

-- both lie in the world, apart
abbrev pub differ : Option Pt → Option Pt → Bool
differ (Some p) (Some q) = not (is_same p q)
differ _ _ = false

abbrev pub place_at : Option (Option Pt) → Option Pt
place_at None = None
place_at (Some place) = place

-- a ring that has fewer than 4 positions, or whose ends lie in the world, apart
abbrev pub is_open : List (Option Pt) → Bool
is_open ring = nat_lt (length ring) 4 || differ (place_at (first_of ring)) (place_at (last_of ring))

abbrev pub has_open_ring : Sketch → Bool
has_open_ring s = list_any is_open (rings_of s)

abbrev pub leaves_world : Sketch → Bool
leaves_world s = list_any is_none (positions_of s)
