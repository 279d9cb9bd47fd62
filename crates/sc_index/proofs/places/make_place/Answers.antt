use Rattle.std.proofs.Common.{◌∙◌, sym}
use Rattle.sc_index.proofs.Placing.{place_made}
use Rattle.sc_index.proofs.places.make_place.Goals as goal

pub returns-in_ok-insert-clause-same : goal.returns-in_ok-insert-clause-same
returns-in_ok-insert-clause-same c = λ id.
    place_made c.args.places.now c.insert.new.self c.args.id.now id (sym c.contains_key.ensures ∙ c.if-not-contains_key.true) (rw c.in_ok-id.ensures at c.in_ok-insert.ensures.updates.0 id)
