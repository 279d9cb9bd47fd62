use Rattle.std.proofs.Common.{subst}
use Rattle.sc_shelf.specs.Kept.{all_items}
use Rattle.sc_page.specs.Kept.{HasFound}
use Rattle.sc_page.specs.Search.{shared}
use Rattle.sc_page.proofs.Outcomes.{if_ok_map}
use Rattle.sc_walk.proofs.Candidates.{page_of_same}
use Rattle.sc_walk.proofs.walking.answer_search.Goals as goal

pub returns-clause-page : goal.returns-clause-page
returns-clause-page g c =
    let asked = c.args.search.now in
    let items = all_items c.in_ok-candidates.candidates.items in
    let there = c.in_ok-candidates.ensures in
    let found = subst (λ l. HasFound asked c.take_candidates.new.first (all_items l)) c.deref.ensures.value c.in_ok-take_candidates.ensures.found in
    if_ok_map _ _
    (λ page p. page_of_same asked items (all_items c.args.snapshot.now.parts) (shared page.items) page.next there.found (p items there.apart found))
    c.into_page.result c.into_page.ensures
