use Rattle.sc_cross.proofs.Geometries.{areas_in}
use Rattle.sc_cross.proofs.Meetings.{entered_holds}
use Rattle.sc_cross.proofs.laws.areas_lie_in_boxes.Goals as goal

pub returns : goal.returns
returns c g r p is around = entered_holds r p g.areas (areas_in r g is around.holds)
