use Rattle.std.proofs.Common.{◌++◌, subst}
use Rattle.std.proofs.lemmas.List.{take_all}
use Rattle.sc_page.specs.Kept.{HasFound}
use Rattle.sc_page.specs.Search.{shared}
use Rattle.sc_page.proofs.Shared.{apart_next, found_next}
use Rattle.sc_page.proofs.first.FirstItems.add_all.Goals as goal

pub loop-item-preserved : goal.loop-item-preserved
loop-item-preserved c before apart f =
    let items = c.args.items.now in
    let i = c.loop-item.item-index in
    let a = c.item-item.result in
    let lt = c.loop-item-test.true in
    let here = c.item-item.is in
    subst (HasFound c.args.search.now c.add.new.self) (found_next before items i a lt here)
    (c.in_ok-add.ensures _ (apart_next before items i a lt here apart) (c.loop-item.invariant before apart f))

pub returns : goal.returns
returns c before apart f =
    subst (λ l. HasFound c.args.search.now c.loop-item.self (before ++ shared l)) (take_all c.loop-item.item-index c.args.items.now c.loop-item-test.false) (c.loop-item.invariant before apart f)
