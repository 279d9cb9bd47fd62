use Rattle.std.proofs.Common.{codes}
use Rattle.std.proofs.lemmas.Result.{IfOk-weaker}
use Rattle.sc_geom.specs.Kinds.{coordinates_name}
use Rattle.sc_cqltree.specs.Geometries.{area_tree}
use Rattle.sc_cqltree.proofs.Reading.{shaped_of}
use Rattle.sc_cqltree.proofs.geometries.area_part.Goals as goal

pub returns : goal.returns
unfolding coordinates_name
returns c =
    IfOk-weaker c.shaped.result _ _
    (λ tree is. shaped_of (codes "Polygon") coordinates_name c.in_ok-area_tree.field-0 (area_tree c.args.area.now) tree c.in_ok-area_tree.ensures is)
    c.shaped.ensures
