use Rattle.std.proofs.Common.{◌≡◌, ◌∙◌}
use Rattle.std.proofs.lemmas.Result.{on_ok_weaker}
use Rattle.sc_cqlwrite.specs.Spelling.{is_none}
use Rattle.sc_cqlwrite.proofs.Parts.{parts_pushed, none_length}
use Rattle.sc_cqlwrite.proofs.geometry.push_parts.Goals as goal

pub returns : goal.returns
returns c =
    let points = c.args.geometry.now.points in
    let no_point : c.is_empty-is_first_line.result ≡ is_none points = (rw c.points.ensures.points at c.is_empty-is_first_line.ensures) ∙ none_length points in
    let first = rw c.points-2.ensures.points at c.in_ok-push_points.ensures in
    let second = rw c.lines.ensures.lines at c.in_ok-push_lines.ensures in
    let third = rw c.areas.ensures.areas at c.push_areas.ensures in
    on_ok_weaker c.push_areas.result
    (parts_pushed c.args.geometry.now c.args.out.now c.push_points.new.out c.push_lines.new.out c.push_areas.new.out c.is_empty-is_first_line.result c.has_areas_alone-is_first_area.result no_point c.has_areas_alone-is_first_area.ensures first second)
    third
