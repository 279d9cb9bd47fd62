use Rattle.sc_http.proofs.Fronts.{counted_more, counted_none}
use Rattle.sc_http.proofs.lines.count_on.Goals as goal

pub counting-init : goal.counting-init
counting-init c = counted_none _ _

pub counting-preserved : goal.counting-preserved
counting-preserved c =
    counted_more _ _ _ _ _ _ _ c.counting.invariant c.in-Some.ensures.cases.0 c.if-count-ge-MOST_FEEDS.false c.if-count-ge-MOST_HEAD.false
    c.with_byte-count.ensures.feeds c.with_byte-count.ensures.begun c.with_byte-count.ensures.seen
