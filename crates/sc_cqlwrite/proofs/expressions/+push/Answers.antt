use Rattle.sc_cqlwrite.specs.Tokens as tokens
use Rattle.sc_cqlwrite.specs.Written.{member_tokens}
use Rattle.sc_cqlwrite.proofs.Spellings.{parts_go_on}
use Rattle.sc_cqlwrite.proofs.Phrases.{and_tokens, or_tokens}
use Rattle.sc_cqlwrite.proofs.expressions.+push.Goals as goal

pub push_chain-loop-member-preserved : goal.push_chain-loop-member-preserved
push_chain-loop-member-preserved t c =
    parts_go_on member_tokens (tokens.word c.args.word.now) c.args.members.now c.loop-member.member-index c.loop-member.is_first c.member-item.result c.loop-member.out c.join.new.self c.push_member.new.out _
    c.loop-member-test.true c.member-item.is c.in_ok-join.ensures c.in_ok-push_member.ensures c.loop-member.invariant

pub push_expr-returns-in-And : goal.push_expr-returns-in-And
push_expr-returns-in-And t c =
    let below = rw c.as_slice.ensures at c.push_chain.ensures in
    rw (c.in-And.is, and_tokens) below

pub push_expr-returns-in-Or : goal.push_expr-returns-in-Or
push_expr-returns-in-Or t c =
    let below = rw c.as_slice-in-Or.ensures at c.push_chain-in-Or.ensures in
    rw (c.in-Or.is, or_tokens) below
