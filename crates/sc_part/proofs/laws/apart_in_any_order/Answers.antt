use Rattle.sc_part.proofs.Changing as lemmas
use Rattle.sc_part.proofs.laws.apart_in_any_order.Goals as goal

pub returns : goal.returns
returns c = lemmas.apart_in_any_order
