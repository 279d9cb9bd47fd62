use Rattle.std.proofs.Common.{sym}
use Rattle.sc_geom.proofs.Spans.{spanned}
use Rattle.sc_geom.proofs.rects.rects_of_bbox.Goals as goal

pub returns : goal.returns
returns c = spanned c.rects_of_sides.result c.args.numbers.now c.in_ok-sides.sides (sym c.in_ok-sides.ensures.sides) c.rects_of_sides.ensures
