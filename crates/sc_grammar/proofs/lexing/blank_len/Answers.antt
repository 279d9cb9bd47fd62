use Rattle.std.proofs.Common.{rules, arith}
use Rattle.sc_grammar.proofs.Lexemes.{blank_on, blank_stops, blank_ends}
use Rattle.sc_grammar.proofs.lexing.blank_len.Goals as goal

pub returns-then-not-is_blank-clause-len : goal.returns-then-not-is_blank-clause-len
returns-then-not-is_blank-clause-len c =
    let h = blank_stops c.args.bytes.now c.loop-i.i c.loop-i-test.true (search rules) in omega (arith, h, c.loop-i.invariant)

pub loop-i-preserved : goal.loop-i-preserved
loop-i-preserved c =
    let h = blank_on c.args.bytes.now c.loop-i.i c.loop-i-test.true (search rules) in omega (arith, h, c.loop-i.invariant)

pub returns-clause-len : goal.returns-clause-len
returns-clause-len c = let h = blank_ends c.args.bytes.now c.loop-i.i c.loop-i-test.false in omega (arith, h, c.loop-i.invariant)
