use Rattle.std.proofs.Common.{arith}
use Rattle.sc_said.proofs.Rooms.{load_short}
use Rattle.sc_said.proofs.room.load_body.Goals as goal

pub unreachable-requires : goal.unreachable-requires
unreachable-requires c =
    let short = load_short c.args.revision c.args.items (omega arith) (omega arith) in
    omega (arith, c.in-Err.ensures.full, c.requires.empty.1, c.requires.wide, short)
