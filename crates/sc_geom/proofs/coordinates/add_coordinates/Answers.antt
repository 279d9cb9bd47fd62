use Rattle.sc_geom.specs.Drawn.{line_of, area_of}
use Rattle.sc_geom.specs.Building.{IsPath, IsArea}
use Rattle.sc_geom.proofs.Steps.{read_ok, line_long, area_some}
use Rattle.sc_geom.proofs.coordinates.add_coordinates.Goals as goal

pub returns-in_ok-add_line-in-LineString : goal.returns-in_ok-add_line-in-LineString
returns-in_ok-add_line-in-LineString c = λ s is.
    let read = read_ok IsPath c.in_ok-read_line-in-LineString.field-0 (line_of c.args.tree.now) c.in_ok-read_line-in-LineString.ensures in
    rw (c.in-LineString.is, read.1) (c.in_ok-add_line-in-LineString.ensures s read.0 is read.2 (line_long c.args.tree.now read.0 read.1))

pub returns-in_ok-add_area-in-Polygon : goal.returns-in_ok-add_area-in-Polygon
returns-in_ok-add_area-in-Polygon c = λ s is.
    let read = read_ok IsArea c.in_ok-read_area-in-Polygon.field-0 (area_of c.args.tree.now) c.in_ok-read_area-in-Polygon.ensures in
    rw (c.in-Polygon.is, read.1) (c.in_ok-add_area-in-Polygon.ensures s read.0 is read.2 (area_some c.args.tree.now read.0 read.1))
