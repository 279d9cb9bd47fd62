use Rattle.sc_server.proofs.Seats.{back_more, tells_none, told_once}
use Rattle.sc_server.proofs.seat.tell_stop.Goals as goal

pub loop-init : goal.loop-init
loop-init g c = tells_none c.args.notices.now

pub loop-preserved : goal.loop-preserved
loop-preserved g c = back_more c.args.notices.now c.loop.notices c.tell.new.pass c.in-Some-tell.back c.loop.invariant c.in-Some-tell.ensures.call

pub returns-in-None-tell : goal.returns-in-None-tell
returns-in-None-tell g c = told_once c.args.notices.now c.loop.notices c.tell.new.pass c.loop.invariant c.in-None-tell.ensures.call
