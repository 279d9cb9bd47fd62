use Rattle.std.proofs.Common.{length, filter}
use Rattle.sc_shelf.specs.Kept.{all_items}
use Rattle.sc_page.specs.Search.{is_asked, shared}
use Rattle.sc_chain.proofs.Joining.{Joins}
use Rattle.sc_chain.proofs.paging.chain_pages.Given as goal

abbrev pub invariant-paging : goal.invariant-paging
invariant-paging g l = Joins l.fn.query (all_items l.snapshot.parts) (shared l.all.items) l.rest

abbrev pub decreases-paging : goal.decreases-paging
decreases-paging g l = length (filter (is_asked l.rest) (all_items l.snapshot.parts))
