use Rattle.std.proofs.Common.{◌≡◌, ◌≤◌, [], length, subst, sym, refl, arith}
use Rattle.std.proofs.lemmas.Result.{on_ok_weaker}
use Rattle.sc_geom.specs.declared.area.Area.{Area}
use Rattle.sc_geom.specs.Building.{IsArea}
use Rattle.sc_wkt.specs.Drawing.{with_area}
use Rattle.sc_wkt.proofs.Drawings.{area_is, filled, same_drawing}
use Rattle.sc_wkt.proofs.drawing.Drawing.draw_area.Goals as goal

pub returns : goal.returns
returns c = λ d is.
    let area = subst (λ (area : Area). IsArea area d.rings) (sym c.replace-area.ensures.value) is.rings_are in
    let counted : c.args.self.now.rings ≡ length d.rings = is.rings_counted in
    let some : 1 ≤ length d.rings = omega arith in
    on_ok_weaker c.add_area.result (λ drawn. same_drawing _ (with_area d.rings d) (filled d.rings d) (area_is d some) (record {
      number_is = is.number_is;
      longitude_is = is.longitude_is;
      path_is = is.path_is;
      rings_are = subst (λ (area : Area). IsArea area []) (sym c.replace-area.ensures.after) c.in_ok-new.ensures;
      rings_counted = refl;
      sketch_is = drawn;
      outside_is = is.outside_is;
      short_is = is.short_is;
    })) (c.add_area.ensures d.sketch d.rings is.sketch_is area some)
