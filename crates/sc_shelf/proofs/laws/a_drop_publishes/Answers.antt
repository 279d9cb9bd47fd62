use Rattle.sc_shelf.proofs.Publishing.{drop_publishes}
use Rattle.sc_shelf.proofs.laws.a_drop_publishes.Goals as goal

pub returns : goal.returns
returns c past id old new is stand are = drop_publishes past id old new stand are
