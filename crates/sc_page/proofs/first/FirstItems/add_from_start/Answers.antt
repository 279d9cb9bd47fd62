use Rattle.std.proofs.Common.{◌++◌, ◌∙◌, sym, ap, subst}
use Rattle.std.proofs.lemmas.List.{take_all}
use Rattle.sqlite_keyed.proofs.RuleLemmas.{first_of_both, second_of_both}
use Rattle.sc_page.specs.Kept.{HasFound}
use Rattle.sc_page.specs.Search.{shared}
use Rattle.sc_page.specs.Leading.{is_latest_first, last_of_full, starts_before}
use Rattle.sc_page.proofs.Reading.{read_far}
use Rattle.sc_page.proofs.Shared.{apart_next, found_next}
use Rattle.sc_page.proofs.first.FirstItems.add_from_start.Goals as goal

pub loop-item-preserved : goal.loop-item-preserved
loop-item-preserved c before apart f =
    let items = c.args.items.now in
    let i = c.loop-item.item-index in
    let a = c.item-item.result in
    let lt = c.loop-item-test.true in
    let here = c.item-item.is in
    subst (HasFound c.args.search.now c.add.new.self) (found_next before items i a lt here)
    (c.in_ok-add.ensures _ (apart_next before items i a lt here apart) (c.loop-item.invariant before apart f))

pub returns : goal.returns
returns c before apart f =
    subst (λ l. HasFound c.args.search.now c.loop-item.self (before ++ shared l)) (take_all c.loop-item.item-index c.args.items.now c.loop-item-test.false) (c.loop-item.invariant before apart f)

pub returns-then-is_too_early : goal.returns-then-is_too_early
returns-then-is_too_early c before apart f =
    let asked = c.args.search.now in
    let self = c.loop-item.self in
    let both = sym c.is_too_early.ensures ∙ c.if-is_too_early.true in
    let sort = sym (c.is_latest_first-latest_first.ensures ∙ ap is_latest_first c.sort.ensures) ∙ first_of_both _ _ both in
    let early = ap (starts_before (last_of_full self.most (shared self.first.items))) (sym c.deref.ensures) ∙ second_of_both _ _ both in
    read_far asked self before c.args.items.now c.loop-item.item-index c.item-item.result c.requires c.loop-item-test.true c.item-item.is sort early (c.loop-item.invariant before apart f)
