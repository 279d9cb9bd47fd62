use Rattle.std.proofs.Common.{refl, ◌≡◌, sym, subst}
use Rattle.sc_script.specs.declared.step.Step.{Step}
use Rattle.sc_outcome.specs.declared.outcome.Outcome.{Outcome}
use Rattle.sc_machine.specs.State.{State, named}
use Rattle.sc_machine.specs.Machine.{Counts, Takes}
use Rattle.sc_machine.specs.Searches.{CountsSearch}
use Rattle.sc_machine.proofs.Seen.{each_ok}
use Rattle.sc_machine.proofs.machine.Machine.take.Goals as goal

again : (step own : Step) (old seen new : State) (outcome : Outcome) → step ≡ own → seen ≡ old → Takes own seen new outcome → Takes step old new outcome
again step own old seen new outcome same is takes = subst (λ s. Takes s old new outcome) (sym same) (subst (λ o. Takes own o new outcome) is takes)

pub returns-in-Publish-clause-taken : goal.returns-in-Publish-clause-taken
returns-in-Publish-clause-taken g c =
    each_ok _ _ (λ outcome is. again _ _ _ _ _ outcome c.in-Publish.is c.self.view_is (is c.self.inside.snapshots c.self.inside.tickets)) c.publish.result c.publish.ensures.told

pub returns-in-Publish-clause-counts : goal.returns-in-Publish-clause-counts
returns-in-Publish-clause-counts g c =
    each_ok _ _ (λ outcome is. subst (λ step. Counts step c.args.self.now c.args.steps.now c.args.steps.now) (sym c.in-Publish.is) refl) c.publish.result c.publish.ensures.told

pub returns-in-Search-clause-counts : goal.returns-in-Search-clause-counts
returns-in-Search-clause-counts g c =
    each_ok _ _ (λ outcome counts.
    subst (λ step. Counts step c.args.self.now c.args.steps.now c.take_search.new.steps) (sym c.in-Search.is)
    (subst (λ (state : State). CountsSearch (named c.in-Search.on state.snapshots) c.in-Search.query state.entries c.args.steps.now c.take_search.new.steps) c.self.view_is
    (counts c.self.inside.catalogue c.self.inside.tickets c.self.invariant))) c.take_search.result c.take_search.ensures.counts
