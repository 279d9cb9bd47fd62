use Rattle.std.proofs.Common.{rules}
use Rattle.sc_turn.proofs.Turns.{reads}
use Rattle.sc_turn.proofs.waiting.read_serving.Goals as goal

pub load-requires : goal.load-requires
load-requires g c = (search rules, search rules, reads _ _ _ _ _ _ _ _ c.requires.drawn)
