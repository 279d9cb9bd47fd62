use Rattle.sc_history.proofs.Finding.{add_touches_none, drop_takes_all, touches_is}
use Rattle.sc_history.proofs.laws.touched_parts.Goals as goal

pub returns : goal.returns
returns c = record { touched = touches_is; add = add_touches_none; drop = drop_takes_all }
