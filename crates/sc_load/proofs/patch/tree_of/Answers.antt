use Rattle.std.proofs.Common.{◌∙◌}
use Rattle.sc_load.proofs.Patching.{own_tree}
use Rattle.sc_load.proofs.patch.tree_of.Goals as goal

pub returns-in-Ok-clause-tree : goal.returns-in-Ok-clause-tree
returns-in-Ok-clause-tree c =
    own_tree c.bytes.result.now c.args.item.now c.in-Ok.tree c.in-Ok.ensures (c.bytes.ensures.bytes ∙ c.doc.ensures.doc) c.doc.ensures.kept
