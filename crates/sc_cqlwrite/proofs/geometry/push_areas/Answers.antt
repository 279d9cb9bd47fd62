use Rattle.sc_cqlwrite.specs.Tokens as tokens
use Rattle.sc_cqlwrite.specs.Geometries.{area_part}
use Rattle.sc_cqlwrite.proofs.Spellings.{parts_go_on}
use Rattle.sc_cqlwrite.proofs.geometry.push_areas.Goals as goal

pub loop-area-preserved : goal.loop-area-preserved
loop-area-preserved c =
    let part = rw c.as_slice.ensures at c.in_ok-push_area.ensures in
    parts_go_on area_part tokens.comma c.args.areas.now c.loop-area.area-index c.loop-area.is_first c.area-item.result c.loop-area.out c.separate.new.self c.push_area.new.out _
    c.loop-area-test.true c.area-item.is c.in_ok-separate.ensures part c.loop-area.invariant
