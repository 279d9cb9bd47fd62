use Rattle.sc_cqlvalue.proofs.Boxing.{rects_answer}
use Rattle.sc_cqlvalue.proofs.laws.boxes_are_bounding_boxes.Goals as goal

pub returns : goal.returns
returns c = rects_answer
