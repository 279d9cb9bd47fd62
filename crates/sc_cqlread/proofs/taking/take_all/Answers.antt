use Rattle.std.proofs.Common.{◌<◌, arith, subst, sym}
use Rattle.sc_cqlread.specs.Reading.{start}
use Rattle.sc_cqlgrammar.specs.Rules.{Items}
use Rattle.sc_cqlread.proofs.Course.{SoFar, at_first, token_taken, end_taken, too_deep, level_too_deep, token_refused, taken_comes, ended, went_on}
use Rattle.sc_cqlread.proofs.taking.take_all.Goals as goal

pub loop-alloc-init : goal.loop-alloc-init
loop-alloc-init c = record {
  within = omega arith;
  low = omega arith;
  so_far = (start, c.requires.reading, subst (λ (x : Items). SoFar c.args.text.now c.args.is_whole 0 0 x start) (sym c.requires.stack) (at_first c.args.text.now c.args.is_whole));
}

pub returns-then-next-gt-MOST_LEVELS : goal.returns-then-next-gt-MOST_LEVELS
returns-then-next-gt-MOST_LEVELS c =
    let p = c.loop-alloc.invariant.so_far in (
      p.0,
      p.1,
      level_too_deep c.args.text.now c.args.is_whole c.loop-alloc.at c.loop-alloc.level c.loop-alloc.stack p.0 p.2 c.token_at-token.result c.token_at-token.ensures.token c.loop-alloc.invariant.low
          c.loop-alloc.invariant.within c.level_behind-next.result c.level_behind-next.ensures c.if-next-gt-MOST_LEVELS.true,
    )

pub returns-then-nests_too_deep : goal.returns-then-nests_too_deep
returns-then-nests_too_deep c =
    let p = c.loop-alloc.invariant.so_far in
    let q = c.in_ok-take.ensures p.0 p.1 in (
      q.0,
      q.1,
      too_deep c.args.text.now c.args.is_whole c.loop-alloc.at c.loop-alloc.level c.loop-alloc.stack p.0 p.2 c.token_at-token.result c.token_at-token.ensures.token c.loop-alloc.invariant.low
          q.0 c.loop-alloc.invariant.within c.if-nests_too_deep.ensures,
    )

pub returns-then-not-branch : goal.returns-then-not-branch
returns-then-not-branch c =
    let p = c.loop-alloc.invariant.so_far in
    let q = rw c.if-not-branch.true at (c.in_ok-take.ensures p.0 p.1) in (
      q.0,
      q.1,
      token_refused c.args.text.now c.args.is_whole c.loop-alloc.at c.loop-alloc.level c.loop-alloc.stack p.0 p.2 c.token_at-token.result c.token_at-token.ensures.token c.loop-alloc.invariant.low
          q.0 c.loop-alloc.invariant.within q.2 c.if-nests_too_deep.ensures,
    )

pub returns-then-is_end : goal.returns-then-is_end
returns-then-is_end c =
    let p = c.loop-alloc.invariant.so_far in
    let q = rw c.if-not-branch.false at (c.in_ok-take.ensures p.0 p.1) in
    let e = ended c.token_at-token.result.class c.take.new.stack c.if-is_end.ensures
    (taken_comes c.args.text.now c.args.is_whole c.loop-alloc.at c.loop-alloc.level c.loop-alloc.stack p.0 p.2 c.token_at-token.result c.token_at-token.ensures.token c.loop-alloc.invariant.low c.take.new.stack q.0 q.2) in (
      q.0,
      q.1,
      end_taken c.args.text.now c.args.is_whole c.loop-alloc.at c.loop-alloc.level c.loop-alloc.stack p.0 p.2 c.token_at-token.result c.token_at-token.ensures.token c.loop-alloc.invariant.low
          c.take.new.stack q.0 q.2 e c.if-is_end.ensures,
    )

pub loop-alloc-smaller : goal.loop-alloc-smaller
loop-alloc-smaller c =
    let p = c.loop-alloc.invariant.so_far in
    let q = rw c.if-not-branch.false at (c.in_ok-take.ensures p.0 p.1) in
    let e = went_on c.token_at-token.result.class c.take.new.stack c.if-is_end.ensures
    (taken_comes c.args.text.now c.args.is_whole c.loop-alloc.at c.loop-alloc.level c.loop-alloc.stack p.0 p.2 c.token_at-token.result c.token_at-token.ensures.token c.loop-alloc.invariant.low c.take.new.stack q.0 q.2) in
    let lt : c.token_at-token.result.from < c.token_at-token.result.to = c.token_at-token.ensures.forward e.0 in
    omega (arith, lt, c.token_at-token.ensures.onward, c.token_at-token.ensures.within)

pub loop-alloc-preserved : goal.loop-alloc-preserved
loop-alloc-preserved c =
    let p = c.loop-alloc.invariant.so_far in
    let q = rw c.if-not-branch.false at (c.in_ok-take.ensures p.0 p.1) in
    let e = went_on c.token_at-token.result.class c.take.new.stack c.if-is_end.ensures
    (taken_comes c.args.text.now c.args.is_whole c.loop-alloc.at c.loop-alloc.level c.loop-alloc.stack p.0 p.2 c.token_at-token.result c.token_at-token.ensures.token c.loop-alloc.invariant.low c.take.new.stack q.0 q.2) in
    record {
      within = c.token_at-token.ensures.within;
      low = c.if-next-gt-MOST_LEVELS.false;
      so_far = (
        q.0,
        q.1,
        token_taken c.args.text.now c.args.is_whole c.loop-alloc.at c.loop-alloc.level c.loop-alloc.stack p.0 p.2 c.token_at-token.result c.token_at-token.ensures.token c.loop-alloc.invariant.low
            c.take.new.stack q.0 q.2 e.0 e.1 c.level_behind-next.result c.level_behind-next.ensures,
      );
    }
