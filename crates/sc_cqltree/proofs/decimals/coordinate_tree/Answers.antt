use Rattle.std.proofs.Common.{◌≡◌, ℕ, List, Err, ap, ◌∙◌, subst, w64, to_z, of_z}
use Rattle.std.proofs.lemmas.Int.{to_z-of_z}
use Rattle.sc_decimal.specs.Value.{Answers}
use Rattle.sc_cqlwrite.specs.Coordinate.{coordinate_text}
use Rattle.sc_cqltree.proofs.Literals.{coordinate_told}
use Rattle.sc_cqltree.proofs.decimals.coordinate_tree.Goals as goal

pub unreachable-requires : goal.unreachable-requires
unreachable-requires c =
    let same : to_z w64 (of_z w64 c.args.steps) ≡ c.args.steps = to_z-of_z w64 c.args.steps c.ranges.steps in
    let text : c.bytes.result.now ≡ coordinate_text c.args.steps = c.bytes.ensures.bytes ∙ c.in_ok-literal.ensures ∙ ap coordinate_text same in
    coordinate_told c.args.steps c.in-Err.field-0 c.requires.low c.requires.high
    (subst (λ (t : List ℕ). Answers t (Err c.in-Err.field-0)) text c.in-Err.ensures.answer)
