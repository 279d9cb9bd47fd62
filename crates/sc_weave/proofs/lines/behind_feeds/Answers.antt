use Rattle.sc_weave.proofs.Feeds.{behind_feed, behind_none}
use Rattle.sc_weave.proofs.lines.behind_feeds.Goals as goal

pub returns-in-Some : goal.returns-in-Some
returns-in-Some c = let e = c.in-Some.ensures in behind_feed _ _ e.0.high e.1 e.0.after

pub returns-in-None : goal.returns-in-None
returns-in-None c = behind_none _ c.in-None.ensures
