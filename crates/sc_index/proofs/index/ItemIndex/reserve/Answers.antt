use Rattle.std.proofs.Common.{rules, ◌∙◌}
use Rattle.sc_index.specs.Found.{found}
use Rattle.sc_index.proofs.Putting.{places_found}
use Rattle.sc_index.proofs.index.ItemIndex.reserve.Goals as goal

pub returns-clause-found : goal.returns-clause-found
unfolding found
returns-clause-found c = λ other id.
    let after = c.reserve_places.new.places in
    let written = (c.get_mut.follows.holds after).3 (search rules) in
    places_found c.make_collection.new.self.collections (c.get_mut.follows.lender after) c.args.collection.now other id c.in-Some.places.now after (search rules) (written.0 other) (c.reserve_places.ensures.same id)
    ∙ c.in_ok-make_collection.ensures.found other id
