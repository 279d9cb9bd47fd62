use Rattle.std.proofs.Common.{◌≡◌, drop, map}
use Rattle.sc_cqlwrite.specs.Tokens as tokens
use Rattle.sc_cqlwrite.specs.Spelling.{with_tokens, going_on}
use Rattle.sc_cqlwrite.specs.Scalars.{scalar_tokens}
use Rattle.sc_cqlwrite.proofs.predicates.push_scalars.Given as goal

-- with the scalars that are left the text is whole
abbrev pub invariant-loop-scalar : goal.invariant-loop-scalar
invariant-loop-scalar l =
    with_tokens l.out (going_on l.is_first tokens.comma (map scalar_tokens (drop l.scalar-index l.scalars))) ≡ with_tokens l.initial.out (going_on l.initial.is_first tokens.comma (map scalar_tokens l.scalars))
