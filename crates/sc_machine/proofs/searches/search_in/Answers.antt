use Rattle.std.proofs.Common.{ap, ◌∙◌, sym, subst, ℕ, ◌+◌, refl}
use Rattle.sc_outcome.specs.declared.outcome.Outcome.TheVariants as gives
use Rattle.sc_outcome.specs.Refused.{refused_of}
use Rattle.sc_machine.specs.Searches as searches
use Rattle.sc_machine.specs.Searches.{Answers}
use Rattle.sc_machine.specs.Inside.{taken}
use Rattle.sc_machine.proofs.Costing.{cost_is}
use Rattle.sc_machine.proofs.Searching.{answered}
use Rattle.sc_machine.proofs.searches.search_in.Goals as goal

pub returns-in_ok-answer-in-Ok-clause-told : goal.returns-in_ok-answer-in-Ok-clause-told
returns-in_ok-answer-in-Ok-clause-told g c entries past told is =
    searches.SearchesIn.found c.in-Ok.query c.in-Ok.ensures
    (subst (λ (n : ℕ). Answers entries (taken c.args.snapshot.now) c.in-Ok.query (gives.Found n c.in_ok-answer-in-Ok.field-0)) (sym c.revision.ensures.revision)
    (answered entries c.args.snapshot.now past told is c.in-Ok.query c.in_ok-answer-in-Ok.field-0 c.in_ok-answer-in-Ok.ensures.page))

pub returns-in_ok-query_refusal-in-Err-clause-told : goal.returns-in_ok-query_refusal-in-Err-clause-told
returns-in_ok-query_refusal-in-Err-clause-told g c entries past told is =
    let known = c.in_ok-query_refusal-in-Err.ensures.known in
    searches.SearchesIn.refused c.in-Err.fault (c.in-Err.ensures known) known (c.refused_of.ensures ∙ ap refused_of c.in_ok-query_refusal-in-Err.ensures.told)

pub returns-in_ok-answer-in-Ok-clause-counts : goal.returns-in_ok-answer-in-Ok-clause-counts
returns-in_ok-answer-in-Ok-clause-counts g c entries past told is =
    searches.CountsIn.found c.in-Ok.query c.in-Ok.ensures past told (c.in_ok-answer-in-Ok.ensures.steps ∙ ap (λ (n : ℕ). c.args.steps.now + n) (cost_is entries c.args.snapshot.now past told is c.in-Ok.query))

pub returns-in_ok-query_refusal-in-Err-clause-counts : goal.returns-in_ok-query_refusal-in-Err-clause-counts
returns-in_ok-query_refusal-in-Err-clause-counts g c entries past told is = searches.CountsIn.refused c.in-Err.fault (c.in-Err.ensures c.in_ok-query_refusal-in-Err.ensures.known) refl
