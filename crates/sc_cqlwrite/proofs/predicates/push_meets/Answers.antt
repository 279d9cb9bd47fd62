use Rattle.std.proofs.Common.{◌∷◌, ◌++◌, codes}
use Rattle.std.proofs.lemmas.Result.{on_ok_weaker}
use Rattle.sc_cqlwrite.specs.Tokens as tokens
use Rattle.sc_cqlwrite.specs.Geometries.{shape_tokens}
use Rattle.sc_cqlwrite.specs.Predicates.{meets_tokens}
use Rattle.sc_cqlwrite.proofs.Spellings.{call_pushed, pair_pushed}
use Rattle.sc_cqlwrite.proofs.predicates.push_meets.Goals as goal

pub returns : goal.returns
unfolding meets_tokens
returns c =
    let left = shape_tokens c.args.left.now in let right = shape_tokens c.args.right.now in
    let pair = pair_pushed left right c.opening.new.self c.push_shape.new.out c.comma.new.self c.push_shape-2.new.out
    c.in_ok-push_shape.ensures c.in_ok-comma.ensures c.in_ok-push_shape-2.ensures in
    on_ok_weaker c.closing.result
    (call_pushed (codes "S_INTERSECTS") (left ++ (tokens.comma ∷ right)) c.args.out.now c.function.new.self c.opening.new.self c.push_shape-2.new.out c.closing.new.self
    c.in_ok-function.ensures c.in_ok-opening.ensures pair)
    c.closing.ensures
