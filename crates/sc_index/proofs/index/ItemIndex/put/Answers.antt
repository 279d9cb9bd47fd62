use Rattle.std.proofs.Common.{rules, map}
use Rattle.std.specs.Arc.{arc_value}
use Rattle.sc_index.specs.Found.{found}
use Rattle.sc_index.proofs.Putting.{put_found}
use Rattle.sc_index.proofs.index.ItemIndex.put.Goals as goal

pub returns-in-Some : goal.returns-in-Some
unfolding found
returns-in-Some c = λ other id.
    let after = c.put_all.new.places in
    let written = (c.get_mut.follows.holds after).3 (search rules) in
    put_found c.args.self.now.collections (c.get_mut.follows.lender after) c.args.collection.now other id c.in-Some.places.now after (map arc_value c.args.items.items) c.requires.collection (search rules) (written.0 other) (c.put_all.ensures id)
