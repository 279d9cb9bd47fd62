use Rattle.std.proofs.Common.{refl}
use Rattle.sc_query.specs.Given.{in_tree}
use Rattle.sc_query.specs.Space.{IntersectsReads, depicted, not_depicted}
use Rattle.sc_query.proofs.Chain.{judged}
use Rattle.sc_query.proofs.space.shape_in.Goals as goal

pub returns-in-Ok : goal.returns-in-Ok
returns-in-Ok c = depicted _ _ refl c.in-Ok.ensures

pub returns-in-Err : goal.returns-in-Err
returns-in-Err c = judged (IntersectsReads (in_tree c.args.tree.now)) _ _ c.no_shape.ensures.known c.no_shape.ensures.bad (λ known. not_depicted c.args.tree.now c.in-Err.fault refl c.in-Err.ensures known)
