use Rattle.sc_cqlvalue.proofs.Boxing.{answered}
use Rattle.sc_cqlvalue.proofs.bbox.rects_of.Goals as goal

pub returns : goal.returns
returns c = answered c.args.numbers.now c.rects_of_bbox.result c.rects_of_bbox.ensures
