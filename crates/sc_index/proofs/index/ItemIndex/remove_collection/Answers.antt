use Rattle.sc_index.specs.Found.{found}
use Rattle.sc_index.proofs.Taking.{collection_taken}
use Rattle.sc_index.proofs.index.ItemIndex.remove_collection.Goals as goal

pub returns : goal.returns
unfolding found
returns c = λ other id. collection_taken c.args.self.now.collections c.remove.new.self c.args.collection.now other id (c.remove.ensures.updates.0 other)
