use Rattle.std.proofs.Common.{◌≡◌, true, false, drop, append-nil, sym, ap, ◌∙◌, arith}
use Rattle.sc_cqlvalue.specs.Literals as literals
use Rattle.sc_cqlvalue.proofs.Quotes.{pair_within, pair_on, byte_on, none_left, goes_on}
use Rattle.sc_cqlvalue.proofs.literal.unescaped.Goals as goal

pub loop-at-preserved-then-is_pair : goal.loop-at-preserved-then-is_pair
loop-at-preserved-then-is_pair c =
    let pair : literals.is_pair c.args.quote c.args.mark (drop c.loop-at.at c.args.bytes.now) ≡ true = ap (literals.is_pair c.args.quote c.args.mark) (sym c.split_at.ensures.back) ∙ sym c.is_pair.ensures ∙ c.if-is_pair.true in
    record {
      within = pair_within c.args.quote c.args.mark c.args.bytes.now c.loop-at.at pair;
      done = goes_on _ _ _ _ _ _ c.loop-at.invariant.done (pair_on c.args.quote c.args.mark c.args.bytes.now c.loop-at.at pair) c.in_ok-push.ensures.items;
    }

pub loop-at-preserved : goal.loop-at-preserved
loop-at-preserved c =
    let byte : literals.is_pair c.args.quote c.args.mark (drop c.loop-at.at c.args.bytes.now) ≡ false = ap (literals.is_pair c.args.quote c.args.mark) (sym c.split_at.ensures.back) ∙ sym c.is_pair.ensures ∙ c.if-is_pair.false in
    record {
      within = omega arith;
      done = goes_on _ _ _ _ _ _ c.loop-at.invariant.done (byte_on c.args.quote c.args.mark c.args.bytes.now c.loop-at.at c.loop-at-test.true byte) c.in_ok-push-2.ensures.items;
    }

pub returns : goal.returns
returns c = let e = none_left c.args.quote c.args.mark c.args.bytes.now c.loop-at.at c.loop-at-test.false in let k = rw e at c.loop-at.invariant.done in rw append-nil at k
