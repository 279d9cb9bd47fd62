use Rattle.std.proofs.Common.{[], subst}
use Rattle.sc_expr.specs.Query.{Asked}
use Rattle.sc_page.specs.Search.{IsPage, shared}
use Rattle.sc_page.proofs.Outcomes.{if_ok_map}
use Rattle.sc_page.proofs.flat.flat_page.Goals as goal

pub returns : goal.returns
returns c =
    let items = shared c.args.items.now in
    if_ok_map _ _
    (λ page p. subst (λ (asked : Asked). IsPage asked items (shared page.items) page.next) c.in_ok-search.ensures (p items c.requires (c.in_ok-add_all.ensures [] c.requires c.new-first.ensures)))
    c.into_page.result c.into_page.ensures
