use Rattle.std.proofs.Common.{rules}
use Rattle.sc_index.proofs.Placing.{place_freed}
use Rattle.sc_index.proofs.places.free_place.Goals as goal

pub returns-in-Some-None : goal.returns-in-Some-None
returns-in-Some-None c = λ id.
    place_freed c.args.places.now c.remove.new.self c.args.id.now id (search rules) (c.remove.ensures.updates.0 id)
