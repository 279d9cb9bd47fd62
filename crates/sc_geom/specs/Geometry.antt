-- What every geometry on the grid is: RFC 7946 §3.1 with every kind flattened into points, lines and areas.
use Rattle.std.specs.Prelude.{◌≡◌, ◌≤◌, List, All, length}
use Rattle.sc_geom.specs.declared.point.Pt.{Pt}
use Rattle.sc_geom.specs.Point.{IsInWorld}
use Rattle.sc_geom.specs.Shapes.{Shapes, positions_of, rings_of, first_of, last_of}

-- a linear ring: closed, of at least four positions (RFC 7946 §3.1.6)
pub record IsRing (ring : List Pt) : Type 0 where
  pub long : 4 ≤ length ring
  pub closed : first_of ring ≡ last_of ring

pub record IsGeometry (g : Shapes Pt) : Type 0 where
  pub in_world : All IsInWorld (positions_of g)
  pub lines : All (λ line. 2 ≤ length line) g.lines
  pub areas : All (λ area. 1 ≤ length area) g.areas
  pub rings : All IsRing (rings_of g)
  pub some : 1 ≤ length (positions_of g)
