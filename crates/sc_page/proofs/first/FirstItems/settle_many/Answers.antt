use Rattle.sc_page.proofs.Collected.{found_from_settled}
use Rattle.sc_page.proofs.first.FirstItems.settle_many.Goals as goal

pub returns : goal.returns
returns c items apart f = found_from_settled c.args.search.now _ items (c.in_ok-settle.ensures items apart f)
