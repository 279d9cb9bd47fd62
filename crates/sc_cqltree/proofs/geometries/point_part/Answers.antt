use Rattle.std.proofs.Common.{codes}
use Rattle.std.proofs.lemmas.Result.{IfOk-weaker}
use Rattle.sc_geom.specs.Kinds.{coordinates_name}
use Rattle.sc_cqltree.specs.Geometries.{position_tree}
use Rattle.sc_cqltree.proofs.Reading.{shaped_of}
use Rattle.sc_cqltree.proofs.geometries.point_part.Goals as goal

pub returns : goal.returns
unfolding coordinates_name
returns c =
    IfOk-weaker c.shaped.result _ _
    (λ tree is. shaped_of (codes "Point") coordinates_name c.in_ok-position_tree.field-0 (position_tree c.args.point.now) tree c.in_ok-position_tree.ensures is)
    c.shaped.ensures
