use Rattle.std.proofs.Common.{refl}
use Rattle.sc_wkt.proofs.Zero.{zero_kept}
use Rattle.sc_wkt.proofs.drawing.Drawing.new.Goals as goal

pub returns : goal.returns
returns c = record {
  number_is = zero_kept c.of_integer.result c.of_integer.ensures;
  longitude_is = refl;
  path_is = c.in_ok-new.ensures;
  rings_are = c.in_ok-new-2.ensures;
  rings_counted = refl;
  sketch_is = c.new-3.ensures;
  outside_is = refl;
  short_is = refl;
}
