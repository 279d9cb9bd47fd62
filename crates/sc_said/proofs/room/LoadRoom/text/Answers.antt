use Rattle.std.proofs.Common.{arith, ap, length, ◌+◌}
use Rattle.sc_said.proofs.Rooms.{load_short}
use Rattle.sc_said.proofs.room.LoadRoom.text.Goals as goal

pub text-requires-clause-room : goal.text-requires-clause-room
text-requires-clause-room c =
    let short = load_short c.args.revision c.args.items (omega arith) (omega arith) in
    omega (arith, ap length c.load_body-body.ensures, c.args.self.held, short)
