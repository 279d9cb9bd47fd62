use Rattle.std.proofs.Common.{◌++◌, ◌∷◌, [], sym, ap, ◌∙◌, subst}
use Rattle.std.specs.List.{All}
use Rattle.std.proofs.lemmas.List.{take_all}
use Rattle.sc_part.specs.Version.{IsKept}
use Rattle.sc_shelf.specs.Ticket.{version_of}
use Rattle.sc_walk.specs.Walk.{is_candidate}
use Rattle.sc_walk.proofs.Taking.{all_next, filter_with, filter_without}
use Rattle.sc_walk.proofs.ordering.find_candidates.Goals as goal
use Rattle.sc_walk.proofs.ordering.find_candidates.Goals.{then-is_candidate+in_ok-push, else-is_candidate}

pub loop-part-preserved : goal.loop-part-preserved
loop-part-preserved c =
    let test = is_candidate c.args.search.now in
    let parts = c.args.parts.now in
    let i = c.loop-part.part-index in
    let part = c.part-item.result in
    let lt = c.loop-part-test.true in
    let here = c.part-item.is in
    let all = c.loop-part.invariant in
    let kept = all_next (λ part. IsKept (version_of part)) parts i part lt here all.1 c.version-version.ensures.kept in
    elim c.if-is_candidate.branch [
      | then-is_candidate+in_ok-push w ↦ (
        ap (λ v. v.items) w.candidates-is ∙ w.in_ok-push.ensures.items ∙ ap (λ p. c.loop-part.candidates.items ++ p ∷ []) w.of.ensures
            ∙ ap (λ l. l ++ part ∷ []) all.0 ∙ sym (filter_with test parts i part lt here (sym c.is_candidate.ensures ∙ w.if-is_candidate.true)),
        kept,
      )
      | else-is_candidate w ↦ (ap (λ v. v.items) w.candidates-is ∙ all.0 ∙ sym (filter_without test parts i part lt here (sym c.is_candidate.ensures ∙ w.if-is_candidate.false)), kept)
    ]

pub returns-clause-kept : goal.returns-clause-kept
returns-clause-kept c = subst (All (λ part. IsKept (version_of part))) (take_all c.loop-part.part-index c.args.parts.now c.loop-part-test.false) c.loop-part.invariant.1
