use Rattle.std.proofs.Common.{◌≡◌, ◌+◌, ◌++◌, true, take, length, sym, ap, ◌∙◌, subst, arith}
use Rattle.std.specs.List.{AllByRecursion}
use Rattle.std.proofs.lemmas.List.{take_all}
use Rattle.sqlite_keyed.proofs.ListLemmas.{filter_all}
use Rattle.sc_item.specs.Names.{AreApart}
use Rattle.sc_history.specs.Part.{Part}
use Rattle.sc_shelf.specs.Kept.{all_items}
use Rattle.sc_page.specs.Kept.{HasFound}
use Rattle.sc_page.specs.Leading.{last_of_full}
use Rattle.sc_page.specs.Search.{shared}
use Rattle.sc_page.proofs.Collected.{found_from_settled}
use Rattle.sc_walk.specs.Walk.{cost, is_within}
use Rattle.sc_walk.proofs.Going.{step_all, step_cost, step_opened, stop_opened, stop_settled, within_cost}
use Rattle.sc_walk.proofs.Taking.{apart_as_far, apart_taken, items_next, told_done}
use Rattle.sc_walk.proofs.walking.take_parts.Goals as goal

pub loop-candidate-preserved : goal.loop-candidate-preserved
loop-candidate-preserved g c =
    let asked = c.args.search.now in
    let parts = c.args.candidates.now in
    let i = c.loop-candidate.candidate-index in
    let part = c.candidate-item.result in
    let lt = c.loop-candidate-test.true in
    let here = c.candidate-item.is in
    let before = all_items (take i parts) in
    let all = c.loop-candidate.invariant in
    let f = c.settle.new.self in
    let settled = c.in_ok-settle.ensures before (apart_taken parts i c.requires.apart) all.0 in
    let told = told_done asked.sort _ _ (last_of_full f.most (shared f.first.items)) _ part c.is_done.result c.is_done.ensures c.sort.ensures c.last.ensures c.part.ensures in
    let opened = step_opened asked parts i part f c.requires.ordered c.requires.apart lt here settled (sym told ∙ c.if-is_done.false) in
    let cost_is = step_cost asked parts i part f c.requires.ordered c.requires.apart lt here settled in
    let taken = c.in_ok-take_part.ensures.found before (subst (λ p. AreApart (before ++ p.items)) (sym c.part-in-loop-candidate.ensures) (apart_as_far parts i part lt here c.requires.apart)) (found_from_settled asked f before settled) in
    let more = c.take_part.ensures.steps in
    let counted = ap (λ (p : Part). length p.items) c.part-in-loop-candidate.ensures in (
      subst (HasFound asked c.take_part.new.first) (ap (λ p. before ++ p.items) c.part-in-loop-candidate.ensures ∙ sym (items_next parts i part lt here)) taken,
      omega (arith, more, counted, all.1, cost_is),
      step_all asked parts i part f c.requires.ordered c.requires.apart lt here settled all.2 opened,
    )

pub returns-then-is_done : goal.returns-then-is_done
returns-then-is_done g c =
    let asked = c.args.search.now in
    let parts = c.args.candidates.now in
    let i = c.loop-candidate.candidate-index in
    let part = c.candidate-item.result in
    let lt = c.loop-candidate-test.true in
    let here = c.candidate-item.is in
    let all = c.loop-candidate.invariant in
    let f = c.settle.new.self in
    let settled = c.in_ok-settle.ensures (all_items (take i parts)) (apart_taken parts i c.requires.apart) all.0 in
    let told = told_done asked.sort _ _ (last_of_full f.most (shared f.first.items)) _ part c.is_done.result c.is_done.ensures c.sort.ensures c.last.ensures c.part.ensures in
    let done = sym told ∙ c.if-is_done.true in
    let whole = stop_settled asked parts i part f c.requires.ordered c.requires.apart lt here settled done in
    let opened = stop_opened asked parts i part f c.requires.ordered c.requires.apart lt here settled done all.2 in
    let exact = all.1 ∙ ap (λ l. c.args.steps.now + cost l) (sym opened) in
    record {
      found = found_from_settled asked f (all_items parts) whole;
      steps = exact;
      at_most = omega (arith, exact);
    }

pub returns : goal.returns
returns g c =
    let asked = c.args.search.now in
    let parts = c.args.candidates.now in
    let i = c.loop-candidate.candidate-index in
    let all = c.loop-candidate.invariant in
    let end = take_all i parts c.loop-candidate-test.false in
    let opened = filter_all (is_within asked parts) parts (subst (AllByRecursion (λ p. is_within asked parts p ≡ true)) end all.2) in
    let exact = all.1 ∙ ap (λ l. c.args.steps.now + cost l) (end ∙ sym opened) in
    record {
      found = subst (λ l. HasFound asked c.loop-candidate.first (all_items l)) end all.0;
      steps = exact;
      at_most = omega (arith, exact);
    }

pub returns-in_err-settle-clause-at_most : goal.returns-in_err-settle-clause-at_most
returns-in_err-settle-clause-at_most g c =
    let asked = c.args.search.now in
    let parts = c.args.candidates.now in
    let all = c.loop-candidate.invariant in
    let far = all.1 in
    let most = within_cost (is_within asked parts) parts c.loop-candidate.candidate-index all.2 in
    omega (arith, far, most)

pub returns-in_err-take_part-clause-at_most : goal.returns-in_err-take_part-clause-at_most
returns-in_err-take_part-clause-at_most g c =
    let asked = c.args.search.now in
    let parts = c.args.candidates.now in
    let i = c.loop-candidate.candidate-index in
    let part = c.candidate-item.result in
    let lt = c.loop-candidate-test.true in
    let here = c.candidate-item.is in
    let all = c.loop-candidate.invariant in
    let f = c.settle.new.self in
    let settled = c.in_ok-settle.ensures (all_items (take i parts)) (apart_taken parts i c.requires.apart) all.0 in
    let told = told_done asked.sort _ _ (last_of_full f.most (shared f.first.items)) _ part c.is_done.result c.is_done.ensures c.sort.ensures c.last.ensures c.part.ensures in
    let opened = step_opened asked parts i part f c.requires.ordered c.requires.apart lt here settled (sym told ∙ c.if-is_done.false) in
    let cost_is = step_cost asked parts i part f c.requires.ordered c.requires.apart lt here settled in
    let next = step_all asked parts i part f c.requires.ordered c.requires.apart lt here settled all.2 opened in
    let most = within_cost (is_within asked parts) parts (i + 1) next in
    let more = c.take_part.ensures.steps in
    let far = all.1 in
    let counted = ap (λ (p : Part). length p.items) c.part-in-loop-candidate.ensures in
    omega (arith, more, counted, far, cost_is, most)
