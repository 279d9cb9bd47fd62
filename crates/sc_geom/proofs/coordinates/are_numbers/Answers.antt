use Rattle.std.proofs.Common.{◌≡◌, IsSome, None, [], ◌∷◌, ◌++◌}
use Rattle.sc_geom.specs.Tree.{number_of}
use Rattle.sc_geom.specs.Drawn.{all_read}
use Rattle.sc_geom.proofs.Lists.{all_read_stops}
use Rattle.sc_geom.proofs.Steps.{read_more}
use Rattle.sc_geom.proofs.coordinates.are_numbers.Goals as goal

pub returns-in-None : goal.returns-in-None
returns-in-None c =
    let none : all_read number_of c.args.trees.now ≡ None = all_read_stops number_of c.args.trees.now c.loop-tree.tree-index c.tree-item.result c.loop-tree-test.true c.tree-item.is c.in-None.ensures in
    (λ h. absurd cc, λ (h : IsSome (all_read number_of c.args.trees.now)). rw none at h)

pub loop-tree-preserved : goal.loop-tree-preserved
loop-tree-preserved c = (
  c.loop-tree.invariant.0 ++ c.in-Some.field-0.now ∷ [],
  read_more number_of c.args.trees.now c.loop-tree.tree-index c.tree-item.result c.loop-tree.invariant.0 c.in-Some.field-0.now c.loop-tree-test.true c.tree-item.is c.loop-tree.invariant.1 c.in-Some.ensures,
)
