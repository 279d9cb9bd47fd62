use Rattle.sc_kept.proofs.Following.{follows}
use Rattle.sc_kept.proofs.replay.follow.Goals as goal

pub returns-in-Ok-clause-followed : goal.returns-in-Ok-clause-followed
returns-in-Ok-clause-followed c = λ _.
    let is = rw c.in-Some.is at c.in_ok-entry.ensures in
    follows c.args.catalogue.now.entries c.args.payload.now c.publish.new.self.entries c.in-Some.entry is c.in-Ok.ensures.ok.takes c.in-Ok.ensures.ok.entries_are
