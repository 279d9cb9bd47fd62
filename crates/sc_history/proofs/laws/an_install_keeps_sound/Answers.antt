use Rattle.sc_history.proofs.Lawful.{install_narrows, install_sound, install_stands}
use Rattle.sc_history.proofs.laws.an_install_keeps_sound.Goals as goal

pub returns : goal.returns
returns c = record { stand = install_stands; sound = install_sound; narrows = install_narrows }
