use Rattle.sc_http.proofs.Fronts.{unfinished_again}
use Rattle.sc_http.proofs.look.look_again.Goals as goal

pub returns-then-lines-feeds : goal.returns-then-lines-feeds
returns-then-lines-feeds c =
    unfinished_again _ _ c.requires.measured c.if-is_over.ensures (c.requires.none c.if-lines-feeds.true)
