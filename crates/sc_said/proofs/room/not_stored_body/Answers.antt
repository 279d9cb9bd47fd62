use Rattle.std.proofs.Common.{arith}
use Rattle.sc_said.proofs.Rooms.{not_stored_short}
use Rattle.sc_said.proofs.room.not_stored_body.Goals as goal

pub unreachable-requires : goal.unreachable-requires
unreachable-requires c =
    let short = not_stored_short c.args.stored (omega arith) in
    omega (arith, c.in-Err.ensures.full, c.requires.empty.1, c.requires.wide, short)
