use Rattle.std.proofs.Common.{rules}
use Rattle.std.proofs.lemmas.Fn.{always_returns_same}
use Rattle.sc_page.proofs.Halving.{earlier_left_out, latest_taken, no_earlier_first, starts_no_earlier}
use Rattle.sc_page.proofs.placing.without_earlier.Goals as goal

pub returns-clause-left : goal.returns-clause-left
returns-clause-left c =
    let items = c.args.items.now in
    let at = c.args.at in
    let count = c.partition_point-count.result in
    let point = c.partition_point-count.ensures.partitioned (starts_no_earlier at) (always_returns_same _ _ _ (λ a r f k. search rules)) (no_earlier_first at items c.requires.latest) in
    earlier_left_out c.args.search.now items at count c.partition_point-count.ensures.bound c.requires.begins c.requires.sort point

pub returns-clause-latest : goal.returns-clause-latest
returns-clause-latest c = latest_taken c.args.items.now c.partition_point-count.result c.requires.latest
