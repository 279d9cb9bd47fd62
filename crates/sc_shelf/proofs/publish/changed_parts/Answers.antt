use Rattle.std.proofs.Common.{◌∷◌, ◌++◌, ◌+◌, ap, ◌∙◌, drop, subst, sym}
use Rattle.std.specs.Option.{option_to_list}
use Rattle.std.proofs.lemmas.List.{drop_all, drop_more}
use Rattle.sc_history.proofs.Lists.{pairs_from_ascending}
use Rattle.sc_shelf.proofs.Between.{Rises, ascending_split}
use Rattle.sc_shelf.proofs.Midway.{IsMidway, midway_begin, midway_end, midway_more, ready_here}
use Rattle.sc_shelf.proofs.publish.changed_parts.Goals as goal

pub loop-change-init : goal.loop-change-init
loop-change-init c =
    subst (λ l. IsMidway c.args.revision c.args.changes.now c.args.changes.now c.args.old.now l c.args.old.now) (sym c.in_ok-new.ensures.items)
    (midway_begin c.args.revision c.args.changes.now c.args.old.now c.requires.rise c.requires.changes)

pub split_at-split-requires : goal.split_at-split-requires
split_at-split-requires c = pairs_from_ascending Rises c.loop-change.rest.now (ascending_split Rises c.loop-change.new.items c.loop-change.rest.now c.loop-change.invariant.rise).1

pub touch-requires-clause-is : goal.touch-requires-clause-is
touch-requires-clause-is c =
    let changes = c.args.changes.now in
    let change = c.change-item.result in
    let left = drop (c.loop-change.change-index + 1) changes in
    let here = drop_more changes c.loop-change.change-index change c.loop-change-test.true ∙ ap (λ d. d ∷ left) (sym c.change-item.is) in
    let midway = subst (λ l. IsMidway c.args.revision changes l c.args.old.now c.loop-change.new.items c.loop-change.rest.now) here c.loop-change.invariant in
    ready_here c.args.revision changes left change c.args.old.now c.loop-change.new.items c.loop-change.rest.now _ _ _ midway c.split_at-split.ensures

pub loop-change-preserved : goal.loop-change-preserved
loop-change-preserved c =
    let changes = c.args.changes.now in
    let change = c.change-item.result in
    let left = drop (c.loop-change.change-index + 1) changes in
    let here = drop_more changes c.loop-change.change-index change c.loop-change-test.true ∙ ap (λ d. d ∷ left) (sym c.change-item.is) in
    let midway = subst (λ l. IsMidway c.args.revision changes l c.args.old.now c.loop-change.new.items c.loop-change.rest.now) here c.loop-change.invariant in
    let more = midway_more c.args.revision changes left change c.args.old.now c.loop-change.new.items c.loop-change.rest.now _ _ _ midway c.split_at-split.ensures c.in_ok-touch.field-0 c.in_ok-touch.ensures in
    subst (λ l. IsMidway c.args.revision changes left c.args.old.now l c.split_at-split.result.after.now)
    (sym (c.in_ok-push_some.ensures ∙ ap (λ l. l ++ option_to_list c.in_ok-touch.field-0) c.in_ok-push_all.ensures)) more

pub returns : goal.returns
returns c =
    let changes = c.args.changes.now in
    let midway = subst (λ l. IsMidway c.args.revision changes l c.args.old.now c.loop-change.new.items c.loop-change.rest.now) (drop_all c.loop-change.change-index changes c.loop-change-test.false) c.loop-change.invariant in
    rw c.in_ok-push_all-2.ensures (midway_end c.args.revision changes c.args.old.now c.loop-change.new.items c.loop-change.rest.now midway)
