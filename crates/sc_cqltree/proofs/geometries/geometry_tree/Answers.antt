use Rattle.std.proofs.Common.{◌≡◌, length, ◌∙◌, rules}
use Rattle.std.proofs.lemmas.Grind.{common_steps}
use Rattle.std.proofs.Common.{arith}
use Rattle.std.proofs.lemmas.Result.{IfOk-weaker}
use Rattle.sc_geom.specs.Kinds.{geometries_name}
use Rattle.sc_cqltree.proofs.SpelledShapes.{other_geometry}
use Rattle.sc_cqltree.proofs.geometries.geometry_tree.Goals as goal

pub returns : goal.returns
unfolding geometries_name
returns c =
    let counted : c.len.result ≡ length c.of.result = first_of (search rules, grind (arith, common_steps)) in
    IfOk-weaker c.shaped.result _ _
    (λ tree is. other_geometry c.args.geometry.now c.of.result tree (c.of.ensures ∙ c.in_ok-parts.ensures) (λ one. c.if-len-eq1.false (counted ∙ one)) is)
    c.shaped.ensures
