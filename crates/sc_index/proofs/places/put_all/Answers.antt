use Rattle.sc_index.proofs.Placing.{last_place, places_stay}
use Rattle.sc_index.proofs.Putting.{put_step}
use Rattle.std.proofs.Common.{map}
use Rattle.std.specs.Arc.{arc_value}
use Rattle.sc_index.specs.Found.{held}
use Rattle.sc_index.proofs.places.put_all.Goals as goal

pub put_one-requires : goal.put_one-requires
put_one-requires c = (last_place c.pop.new.self.items c.in-Some.item c.loop-item.places (rw c.in-Some.ensures.items at c.loop-item.invariant.places)).0

pub loop-item-preserved : goal.loop-item-preserved
loop-item-preserved c =
    let have = last_place c.pop.new.self.items c.in-Some.item c.loop-item.places (rw c.in-Some.ensures.items at c.loop-item.invariant.places) in
    record {
      places = places_stay (map arc_value c.pop.new.self.items) c.loop-item.places c.put_one.new.places c.put_one.ensures.stays have.1;
      held = λ id. put_step id c.pop.new.self.items c.in-Some.item (held c.loop-item.places id) (held c.put_one.new.places id) _ (c.put_one.ensures.held id) (rw c.in-Some.ensures.items at c.loop-item.invariant.held id);
    }
