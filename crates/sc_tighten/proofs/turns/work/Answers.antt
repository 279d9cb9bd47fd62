use Rattle.std.proofs.Common.{rules, ◌≡◌, ◌+◌, ◌<◌, ◌++◌, [], ◌∷◌, length, length-append, sym, ap, ◌∙◌, arith}
use Rattle.sc_tighten.specs.Work.{tightener, counted, no_turn, plus, total}
use Rattle.sc_tighten.proofs.Working.{counted_more, total_is, turns_more}
use Rattle.sc_tighten.proofs.turns.work.Goals as goal

pub add-requires : goal.add-requires
add-requires g c =
    let held = c.loop.invariant in
    let few : c.loop.counter < c.args.turns = search rules in
    let sum : total c.loop.count ≡ length held.outcomes = total_is held.outcomes c.loop.count held.count_is in
    let so_many : length held.outcomes ≡ c.loop.counter = held.are_so_many in
    let fits : c.args.turns < 18446744073709551616 = search rules in
    omega (arith, few, sum, so_many, fits)

pub loop-preserved : goal.loop-preserved
loop-preserved g c =
    let held = c.loop.invariant in
    let outcome = c.in-Some.outcome in
    record {
      outcomes = held.outcomes ++ outcome ∷ [];
      are_so_many = omega (arith, length-append held.outcomes (outcome ∷ []), held.are_so_many);
      are_taken = turns_more held.outcomes outcome (tightener c.args.pass.now c.args.notices.now) (tightener c.loop.pass c.loop.notices)
          (tightener c.take_turn.new.pass c.take_turn.new.notices) held.are_taken c.in-Some.ensures;
      count_is = c.add.ensures ∙ ap (plus outcome) held.count_is ∙ sym (counted_more held.outcomes outcome no_turn);
    }
