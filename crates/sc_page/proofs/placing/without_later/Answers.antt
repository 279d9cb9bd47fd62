use Rattle.std.proofs.Common.{rules, sym, subst}
use Rattle.std.proofs.lemmas.Fn.{always_returns_same}
use Rattle.std.proofs.lemmas.List.{take_rest}
use Rattle.sc_page.specs.Leading.{AreLatestFirst}
use Rattle.sc_page.specs.Placing.{LeavesOut}
use Rattle.sc_page.specs.Search.{shared}
use Rattle.sc_page.proofs.Halving.{later_first, later_left_out, latest_dropped, starts_later}
use Rattle.sc_page.proofs.placing.without_later.Goals as goal

pub returns-clause-left : goal.returns-clause-left
returns-clause-left c =
    let items = c.args.items.now in
    let at = c.args.at in
    let count = c.partition_point-count.result in
    let point = c.partition_point-count.ensures.partitioned (starts_later at) (always_returns_same _ _ _ (λ a r f k. search rules)) (later_first at items c.requires.latest) in
    subst (λ l. LeavesOut c.args.search.now (shared items) (shared l)) (sym (take_rest items count)) (later_left_out c.args.search.now items at count c.partition_point-count.ensures.bound c.requires.begins c.requires.sort point)

pub returns-clause-latest : goal.returns-clause-latest
returns-clause-latest c =
    subst (λ l. AreLatestFirst (shared l)) (sym (take_rest c.args.items.now c.partition_point-count.result)) (latest_dropped c.args.items.now c.partition_point-count.result c.partition_point-count.ensures.bound c.requires.latest)
