use Rattle.std.proofs.Common.{◌∙◌, sym}
use Rattle.sc_index.specs.Found.{found}
use Rattle.sc_index.proofs.Putting.{collection_made}
use Rattle.sc_index.proofs.index.ItemIndex.make_collection.Goals as goal

pub returns-in_ok-insert-clause-found : goal.returns-in_ok-insert-clause-found
unfolding found
returns-in_ok-insert-clause-found c = λ other id.
    collection_made c.args.self.now.collections c.insert.new.self c.args.collection.now other id c.new.result c.new.ensures.empty (sym c.contains_key.ensures ∙ c.if-not-contains_key.true)
    (rw c.in_ok-id.ensures at c.in_ok-insert.ensures.updates.0 other)
