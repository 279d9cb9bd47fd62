use Rattle.sc_cqlread.proofs.Scanning.{token_scanned, scanned_too_deep, scanned_all}
use Rattle.sc_cqlread.proofs.nesting.nests_too_deep.Goals as goal

pub returns-then-not-is_formed : goal.returns-then-not-is_formed
returns-then-not-is_formed c = λ tokens are.
    scanned_all c.args.text.now c.args.is_whole c.args.before tokens c.loop-token.at c.loop-token.level c.token_at-token.result c.token_at-token.ensures.token
    c.if-not-is_formed.ensures c.loop-token.invariant.low (c.loop-token.invariant.left tokens are)

pub returns-then-level-gt-MOST_LEVELS : goal.returns-then-level-gt-MOST_LEVELS
returns-then-level-gt-MOST_LEVELS c = λ tokens are.
    scanned_too_deep c.args.text.now c.args.is_whole c.args.before tokens c.loop-token.at c.loop-token.level c.token_at-token.result c.token_at-token.ensures.token
    c.if-not-is_formed.ensures c.level_behind-level.result c.level_behind-level.ensures c.if-level-gt-MOST_LEVELS.true (c.loop-token.invariant.left tokens are)

pub loop-token-preserved : goal.loop-token-preserved
loop-token-preserved c = record {
  within = c.token_at-token.ensures.within;
  low = c.if-level-gt-MOST_LEVELS.false;
  left = λ tokens are.
      token_scanned c.args.text.now c.args.is_whole c.args.before tokens c.loop-token.at c.loop-token.level c.token_at-token.result c.token_at-token.ensures.token
      c.if-not-is_formed.ensures c.loop-token.invariant.low c.level_behind-level.result c.level_behind-level.ensures (c.loop-token.invariant.left tokens are);
}
