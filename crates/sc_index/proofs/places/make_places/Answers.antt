use Rattle.std.proofs.Common.{◌∙◌}
use Rattle.sc_index.proofs.Placing.{places_more}
use Rattle.sc_index.proofs.places.make_places.Goals as goal

pub loop-item-preserved : goal.loop-item-preserved
loop-item-preserved c = record {
  same = λ id. c.in_ok-make_place.ensures.same id ∙ c.loop-item.invariant.same id;
  made = places_more c.args.items.now c.loop-item.item-index c.item-item.result c.loop-item.places c.make_place.new.places c.loop-item-test.true c.item-item.is c.in_ok-make_place.ensures.stays
      (rw (c.id.ensures, c.deref.ensures) at c.in_ok-make_place.ensures.made) c.loop-item.invariant.made;
}
