use Rattle.std.proofs.Common.{arith, ap, length, ◌+◌}
use Rattle.sc_said.proofs.Rooms.{not_stored_short}
use Rattle.sc_said.proofs.room.LoadRoom.not_stored.Goals as goal

pub text-requires-clause-room : goal.text-requires-clause-room
text-requires-clause-room c =
    let short = not_stored_short c.args.stored (omega arith) in
    omega (arith, ap length c.not_stored_body-body.ensures, c.args.self.held, short)
