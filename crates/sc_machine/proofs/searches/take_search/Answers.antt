use Rattle.std.proofs.Common.{sym, subst}
use Rattle.std.specs.Prelude.{IfSome}
use Rattle.sc_machine.specs.Inside.{IsOfHistory}
use Rattle.sc_machine.proofs.Seen.{each_ok}
use Rattle.sc_machine.proofs.Searching.{count_named, count_nowhere, search_named, search_nowhere}
use Rattle.sc_machine.proofs.searches.take_search.Goals as goal

pub returns-in-None-clause-told : goal.returns-in-None-clause-told
returns-in-None-clause-told g c =
    each_ok _ _ (λ outcome told holdings hulls kept. search_nowhere holdings c.args.snapshots.now hulls c.args.on c.args.query.now outcome c.in-None.ensures.value told) c.no_such_name.result c.no_such_name.ensures

pub returns-in-Some-clause-told : goal.returns-in-Some-clause-told
returns-in-Some-clause-told g c =
    each_ok _ _ (λ outcome is holdings hulls kept.
    search_named holdings c.args.snapshots.now hulls c.args.on c.args.query.now c.in-Some.snapshot.now outcome c.in-Some.ensures.value
    (is holdings.entries kept.past kept.told (subst (λ o. IfSome o (IsOfHistory holdings.entries)) (sym c.in-Some.ensures.value) (kept.snapshots c.args.on)))) c.search_in.result c.search_in.ensures.told

pub returns-in-None-clause-counts : goal.returns-in-None-clause-counts
returns-in-None-clause-counts g c = each_ok _ _ (λ outcome told holdings hulls kept. count_nowhere holdings c.args.snapshots.now hulls c.args.on c.args.query.now c.args.steps.now c.in-None.ensures.value) c.no_such_name.result c.no_such_name.ensures

pub returns-in-Some-clause-counts : goal.returns-in-Some-clause-counts
returns-in-Some-clause-counts g c =
    each_ok _ _ (λ outcome counts holdings hulls kept.
    count_named holdings c.args.snapshots.now hulls c.args.on c.args.query.now c.in-Some.snapshot.now c.args.steps.now c.search_in.new.steps c.in-Some.ensures.value
    (counts holdings.entries kept.past kept.told (subst (λ o. IfSome o (IsOfHistory holdings.entries)) (sym c.in-Some.ensures.value) (kept.snapshots c.args.on)))) c.search_in.result c.search_in.ensures.counts
