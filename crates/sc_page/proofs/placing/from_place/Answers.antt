use Rattle.sc_page.specs.Search.{shared}
use Rattle.sc_page.proofs.Halving.{leaves_none}
use Rattle.sc_page.proofs.placing.from_place.Goals as goal

pub returns-in_default-clause-left : goal.returns-in_default-clause-left
returns-in_default-clause-left c = leaves_none c.args.search.now (shared c.args.items.now)

pub returns-in_default-2-clause-left : goal.returns-in_default-2-clause-left
returns-in_default-2-clause-left c = leaves_none c.args.search.now (shared c.args.items.now)
