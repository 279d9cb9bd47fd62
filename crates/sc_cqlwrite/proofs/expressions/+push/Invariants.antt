use Rattle.std.proofs.Common.{◌≡◌, drop, map}
use Rattle.sc_cqlwrite.specs.Tokens as tokens
use Rattle.sc_cqlwrite.specs.Spelling.{with_tokens, going_on}
use Rattle.sc_cqlwrite.specs.Written.{member_tokens}
use Rattle.sc_cqlwrite.proofs.expressions.+push.Given as goal

-- with the members that are left the text is whole
abbrev pub invariant-push_chain-loop-member : goal.invariant-push_chain-loop-member
invariant-push_chain-loop-member l =
    with_tokens l.out (going_on l.is_first (tokens.word l.word) (map member_tokens (drop l.member-index l.members))) ≡ with_tokens l.initial.out (going_on l.initial.is_first (tokens.word l.word) (map member_tokens l.members))
