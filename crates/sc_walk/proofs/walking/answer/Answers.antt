use Rattle.std.proofs.Common.{subst, IfOk}
use Rattle.sc_expr.specs.Query.{Asked}
use Rattle.sc_shelf.specs.Kept.{all_items}
use Rattle.sc_page.specs.Search.{IsPage, shared}
use Rattle.sc_walk.proofs.walking.answer.Goals as goal

pub returns-clause-page : goal.returns-clause-page
returns-clause-page g c =
    subst (λ (asked : Asked). IfOk c.answer_search.result (λ page. IsPage asked (all_items c.args.snapshot.now.parts) (shared page.items) page.next)) c.in_ok-search.ensures c.answer_search.ensures.page
