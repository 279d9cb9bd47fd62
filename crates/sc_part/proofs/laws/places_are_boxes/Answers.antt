use Rattle.sc_part.proofs.Boxes as lemmas
use Rattle.sc_part.proofs.laws.places_are_boxes.Goals as goal

pub returns : goal.returns
returns c = lemmas.kept_box
