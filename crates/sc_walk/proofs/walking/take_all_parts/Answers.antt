use Rattle.std.proofs.Common.{◌+◌, ◌++◌, take, length, sym, ap, ◌∙◌, subst, arith}
use Rattle.std.proofs.lemmas.List.{take_all}
use Rattle.sc_item.specs.Names.{AreApart}
use Rattle.sc_history.specs.Part.{Part}
use Rattle.sc_shelf.specs.Kept.{all_items}
use Rattle.sc_page.specs.Kept.{HasFound}
use Rattle.sc_walk.specs.Walk.{cost}
use Rattle.sc_walk.proofs.Going.{cost_front, cost_next}
use Rattle.sc_walk.proofs.Taking.{apart_as_far, items_next}
use Rattle.sc_walk.proofs.walking.take_all_parts.Goals as goal

pub loop-candidate-preserved : goal.loop-candidate-preserved
loop-candidate-preserved g c =
    let asked = c.args.search.now in
    let parts = c.args.candidates.now in
    let i = c.loop-candidate.candidate-index in
    let part = c.candidate-item.result in
    let lt = c.loop-candidate-test.true in
    let here = c.candidate-item.is in
    let before = all_items (take i parts) in
    let all = c.loop-candidate.invariant in
    let taken = c.in_ok-take_part.ensures.found before (subst (λ p. AreApart (before ++ p.items)) (sym c.part.ensures) (apart_as_far parts i part lt here c.requires.apart)) all.0 in
    let more = c.take_part.ensures.steps in
    let counted = ap (λ (p : Part). length p.items) c.part.ensures in
    let far = all.1 in
    let next = cost_next parts i part lt here in (
      subst (HasFound asked c.take_part.new.first) (ap (λ p. before ++ p.items) c.part.ensures ∙ sym (items_next parts i part lt here)) taken,
      omega (arith, more, counted, far, next),
    )

pub returns : goal.returns
returns g c =
    let parts = c.args.candidates.now in
    let all = c.loop-candidate.invariant in
    let end = take_all c.loop-candidate.candidate-index parts c.loop-candidate-test.false in
    let exact = all.1 ∙ ap (λ l. c.args.steps.now + cost l) end in
    record {
      found = subst (λ l. HasFound c.args.search.now c.loop-candidate.first (all_items l)) end all.0;
      steps = exact;
      at_most = omega (arith, exact);
    }

pub returns-in_err-take_part-clause-at_most : goal.returns-in_err-take_part-clause-at_most
returns-in_err-take_part-clause-at_most g c =
    let parts = c.args.candidates.now in
    let i = c.loop-candidate.candidate-index in
    let part = c.candidate-item.result in
    let more = c.take_part.ensures.steps in
    let counted = ap (λ (p : Part). length p.items) c.part.ensures in
    let far = c.loop-candidate.invariant.1 in
    let next = cost_next parts i part c.loop-candidate-test.true c.candidate-item.is in
    let most = cost_front parts (i + 1) in
    omega (arith, more, counted, far, next, most)
