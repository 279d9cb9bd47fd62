use Rattle.std.proofs.Common.{◌≡◌, ◌≤◌, ◌+◌, ap, sym, ◌∙◌, subst, OnOk}
use Rattle.sc_walk.specs.Walk.{begins_with_time, cost}
use Rattle.sc_walk.proofs.Going.{all_within}
use Rattle.sc_walk.proofs.walking.take_candidates.Goals as goal

pub returns : goal.returns
returns g c =
    let other = sym (c.begins_with_time.ensures ∙ ap begins_with_time c.sort.ensures) ∙ c.if-begins_with_time.false in
    let same = sym (all_within c.args.search.now c.args.candidates.now other) in
    record {
      found = c.take_all_parts.ensures.found;
      steps = subst (λ l. OnOk c.take_all_parts.result (c.take_all_parts.new.steps ≡ c.args.steps.now + cost l)) same c.take_all_parts.ensures.steps;
      at_most = subst (λ l. c.take_all_parts.new.steps ≤ c.args.steps.now + cost l) same c.take_all_parts.ensures.at_most;
    }
