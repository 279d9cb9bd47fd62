use Rattle.std.proofs.Common.{List, subst, sym}
use Rattle.std.specs.List.{All}
use Rattle.sc_geom.specs.declared.point.Pt.{Pt}
use Rattle.sc_geom.specs.Point.{IsInWorld}
use Rattle.sc_cqltree.proofs.SpelledShapes.{lines_in_world, areas_in_world}
use Rattle.sc_cqltree.proofs.geometries.parts_of.Goals as goal

pub push_lines-requires : goal.push_lines-requires
push_lines-requires c =
    subst (λ (lines : List (List Pt)). All (All IsInWorld) lines) (sym c.lines.ensures.lines) (lines_in_world c.args.geometry.now c.lines.ensures.kept)

pub push_areas-requires : goal.push_areas-requires
push_areas-requires c =
    subst (λ (areas : List (List (List Pt))). All (All (All IsInWorld)) areas) (sym c.areas.ensures.areas) (areas_in_world c.args.geometry.now c.areas.ensures.kept)
