use Rattle.sc_page.specs.Search.{shared}
use Rattle.sc_page.proofs.Halving.{apart_left, found_left}
use Rattle.sc_page.proofs.Outcomes.{on_ok_map}
use Rattle.sc_page.proofs.first.FirstItems.add_latest_first.Goals as goal

pub returns : goal.returns
returns c =
    let asked = c.args.search.now in
    let items = shared c.args.items.now in
    let rest = shared c.from_place-rest.result.now in
    let left = c.from_place-rest.ensures.left in
    on_ok_map _ _ (λ added before apart f. found_left asked before items rest left _ (added before (apart_left asked before items rest left apart) f)) c.add_from_start.result c.add_from_start.ensures

pub returns-then-is_earliest_first : goal.returns-then-is_earliest_first
returns-then-is_earliest_first c =
    let asked = c.args.search.now in
    let items = shared c.args.items.now in
    let rest = shared c.from_place-rest.result.now in
    let left = c.from_place-rest.ensures.left in
    on_ok_map _ _ (λ added before apart f. found_left asked before items rest left _ (added before (apart_left asked before items rest left apart) f)) c.add_from_end.result c.add_from_end.ensures
