use Rattle.std.proofs.Common.{◌≡◌, ◌≤◌, [], length, true, nat_le, subst, sym, arith}
use Rattle.std.proofs.lemmas.Result.{on_ok_weaker}
use Rattle.sc_geom.specs.declared.path.Path.{Path}
use Rattle.sc_geom.specs.Building.{IsPath}
use Rattle.sc_wkt.specs.Drawing.{with_line}
use Rattle.sc_wkt.proofs.Drawings.{line_is, same_drawing}
use Rattle.sc_wkt.proofs.drawing.Drawing.draw_line.Goals as goal

pub returns : goal.returns
returns c = λ d is.
    let path = subst (λ (path : Path). IsPath path d.path) (sym c.replace-path.ensures.value) is.path_is in
    let counted : c.len.result ≡ length d.path = c.len.ensures d.path path in
    let long : 2 ≤ length d.path = omega arith in
    on_ok_weaker c.add_line.result (λ drawn. same_drawing _ (with_line (nat_le 2 (length d.path)) d) (with_line true d) (line_is d long) (record {
      number_is = is.number_is;
      longitude_is = is.longitude_is;
      path_is = subst (λ (path : Path). IsPath path []) (sym c.replace-path.ensures.after) c.in_ok-new.ensures;
      rings_are = is.rings_are;
      rings_counted = is.rings_counted;
      sketch_is = drawn;
      outside_is = is.outside_is;
      short_is = is.short_is;
    })) (c.add_line.ensures d.sketch d.path is.sketch_is path long)
