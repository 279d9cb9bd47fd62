use Rattle.sc_history.proofs.Telling.{sound_nothing}
use Rattle.sc_history.proofs.laws.nothing_is_sound.Goals as goal

pub returns : goal.returns
returns c = sound_nothing
