use Rattle.std.proofs.Common.{rules}
use Rattle.sc_index.specs.Found.{found}
use Rattle.sc_index.proofs.Taking.{item_taken, place_taken}
use Rattle.sc_index.proofs.index.ItemIndex.remove.Goals as goal

pub returns-in-Some : goal.returns-in-Some
unfolding found
returns-in-Some c = λ other name.
    let after = c.remove.new.self in
    let written = (c.get_mut.follows.holds after).3 (search rules) in
    item_taken c.args.self.now.collections (c.get_mut.follows.lender after) c.args.collection.now other c.args.id.now name c.in-Some.places.now after (search rules) (written.0 other)
    (place_taken c.in-Some.places.now after c.args.id.now name (c.remove.ensures.updates.0 name))
