use Rattle.std.proofs.Common.{[], subst, sym}
use Rattle.std.proofs.lemmas.Result.{on_ok_weaker}
use Rattle.sc_geom.specs.declared.path.Path.{Path}
use Rattle.sc_geom.specs.Building.{IsPath}
use Rattle.sc_wkt.proofs.drawing.Drawing.draw_points.Goals as goal

pub returns : goal.returns
returns c = λ d is.
    on_ok_weaker c.add_points.result (λ drawn. record {
      number_is = is.number_is;
      longitude_is = is.longitude_is;
      path_is = subst (λ (path : Path). IsPath path []) (sym c.replace-path.ensures.after) c.in_ok-new.ensures;
      rings_are = is.rings_are;
      rings_counted = is.rings_counted;
      sketch_is = drawn;
      outside_is = is.outside_is;
      short_is = is.short_is;
    }) (c.add_points.ensures d.sketch d.path is.sketch_is (subst (λ (path : Path). IsPath path d.path) (sym c.replace-path.ensures.value) is.path_is))
