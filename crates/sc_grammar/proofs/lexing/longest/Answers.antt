use Rattle.std.proofs.Common.{◌+◌, ◌≤◌, drop, sym, ap, subst, ◌∙◌, arith}
use Rattle.std.specs.Prelude.{IfSome}
use Rattle.sc_grammar.specs.Lexing.{Found, longest_from}
use Rattle.sc_grammar.proofs.Lexemes.{longest_on, longest_stops, longest_ends, better_within, within_more}
use Rattle.sc_grammar.proofs.lexing.longest.Goals as goal

pub returns-in-None : goal.returns-in-None
returns-in-None c = record {
  longest = sym (longest_stops c.args.bytes.now c.loop-i.i c.loop-i.i c.loop-i.part c.loop-i.best c.loop-i-test.true (sym c.part_on.ensures ∙ c.in-None.is)) ∙ c.loop-i.invariant.same;
  within = within_more c.loop-i.i _ c.loop-i.best (omega arith) c.loop-i.invariant.within;
}

pub loop-i-preserved : goal.loop-i-preserved
loop-i-preserved c =
    let on = longest_on c.args.bytes.now c.loop-i.i c.loop-i.i c.loop-i.part c.in-Some.next c.loop-i.best c.loop-i-test.true (sym c.part_on.ensures ∙ c.in-Some.is) in
    record {
      same = ap (λ (x : Found). longest_from (drop (c.loop-i.i + 1) c.args.bytes.now) c.in-Some.next (c.loop-i.i + 1) x) c.better-best.ensures ∙ (sym on ∙ c.loop-i.invariant.same);
      within = subst (λ (x : Found). IfSome x (λ found. found.1 ≤ c.loop-i.i + 1)) (sym c.better-best.ensures) (better_within c.in-Some.next c.loop-i.i c.loop-i.best c.loop-i.invariant.within);
    }

pub returns : goal.returns
returns c = record {
  longest = sym (longest_ends c.args.bytes.now c.loop-i.i c.loop-i.i c.loop-i.part c.loop-i.best c.loop-i-test.false) ∙ c.loop-i.invariant.same;
  within = within_more c.loop-i.i _ c.loop-i.best c.loop-i.auto.i-end c.loop-i.invariant.within;
}
