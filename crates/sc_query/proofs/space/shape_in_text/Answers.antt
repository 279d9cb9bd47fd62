use Rattle.sc_query.specs.Given.{in_text}
use Rattle.sc_query.specs.Space.{IntersectsReads, no_tree}
use Rattle.sc_query.proofs.Chain.{judged}
use Rattle.sc_query.proofs.Spelled.{spells_none, shape_spelled}
use Rattle.sc_query.proofs.space.shape_in_text.Goals as goal

pub returns-in-Ok : goal.returns-in-Ok
returns-in-Ok c = shape_spelled _ _ c.in-Ok.tree c.bytes.ensures.bytes c.in-Ok.ensures _ c.shape_in.ensures

pub returns-in-Err : goal.returns-in-Err
returns-in-Err c = judged (IntersectsReads (in_text c.args.text.now)) _ _ c.unspelled.ensures.known c.unspelled.ensures.bad
    (λ known. no_tree (spells_none _ c.args.text.now c.in-Err.fault c.bytes.ensures.bytes c.in-Err.ensures known))
