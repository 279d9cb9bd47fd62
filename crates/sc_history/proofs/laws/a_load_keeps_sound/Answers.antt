use Rattle.sc_history.proofs.Telling.{sound_next, told_next}
use Rattle.sc_history.proofs.Lawful.{parts_after_load, stand_after}
use Rattle.sc_history.proofs.laws.a_load_keeps_sound.Goals as goal

pub returns : goal.returns
returns c = record { stand = stand_after; names = parts_after_load; told = told_next; sound = sound_next }
