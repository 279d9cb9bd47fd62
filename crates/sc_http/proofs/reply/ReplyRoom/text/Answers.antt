use Rattle.std.proofs.Common.{arith, ◌<◌, ◌^◌, length}
use Rattle.sc_http.proofs.Replies.{reply_short}
use Rattle.sc_http.proofs.reply.ReplyRoom.text.Goals as goal

pub unreachable-requires : goal.unreachable-requires
unreachable-requires c =
    let short = reply_short c.args.reply.now c.requires.status (omega (arith, c.len-length.ensures)) (omega arith) in
    omega (arith, c.in-Err.ensures.full, c.self.inside.empty.1, c.self.inside.wide, c.self.view_is, c.requires.room, short)
