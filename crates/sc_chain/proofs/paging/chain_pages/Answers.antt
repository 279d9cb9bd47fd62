use Rattle.std.proofs.Common.{subst, sym}
use Rattle.sc_history.proofs.Covering.{snapshot_apart}
use Rattle.sc_page.specs.Search.{shared}
use Rattle.sc_shelf.specs.Kept.{all_items}
use Rattle.sc_chain.specs.Chain.{IsAll}
use Rattle.sc_chain.specs.Joining.{GoesOn}
use Rattle.sc_chain.proofs.Joining.{all_apart, fewer_left, last_page, one_more_page}
use Rattle.sc_chain.proofs.paging.chain_pages.Goals as goal

pub returns-in_default-clause-all : goal.returns-in_default-clause-all
returns-in_default-clause-all g c =
    let items = all_items c.args.snapshot.now.parts in
    let old = shared c.paging.all.items in
    let new = shared c.join_page.new.all.items in
    subst (λ all. IsAll c.args.query items (shared all)) (sym c.of.ensures)
    (last_page c.args.query c.paging.rest items old new (subst (GoesOn c.paging.rest items old new) c.in_default.is c.in_ok-next.ensures) c.paging.invariant)

pub returns-in_default-clause-apart : goal.returns-in_default-clause-apart
returns-in_default-clause-apart g c =
    all_apart c.args.query (all_items c.args.snapshot.now.parts) (shared c.of.result) (returns-in_default-clause-all g c) (snapshot_apart c.args.snapshot.now c.revision-revision.ensures.stood)

pub paging-smaller : goal.paging-smaller
paging-smaller g c =
    let items = all_items c.args.snapshot.now.parts in
    let old = shared c.paging.all.items in
    let new = shared c.join_page.new.all.items in
    fewer_left c.paging.rest c.in-Some.next items old new (subst (GoesOn c.paging.rest items old new) c.in-Some.is c.in_ok-next.ensures)

pub paging-preserved : goal.paging-preserved
paging-preserved g c =
    let items = all_items c.args.snapshot.now.parts in
    let old = shared c.paging.all.items in
    let new = shared c.join_page.new.all.items in
    one_more_page c.args.query c.paging.rest c.in-Some.next items old new (subst (GoesOn c.paging.rest items old new) c.in-Some.is c.in_ok-next.ensures) c.paging.invariant
