use Rattle.sc_page.specs.Search.{shared}
use Rattle.sc_page.proofs.Reading.{found_turned}
use Rattle.sc_page.proofs.first.FirstItems.add_from_end.Goals as goal

pub returns : goal.returns
returns c before apart f =
    found_turned c.args.search.now c.args.self.now c.add_backwards.new.self c.settle.new.self (shared c.args.items.now) c.in_ok-add_backwards.ensures c.in_ok-settle.ensures before apart f
