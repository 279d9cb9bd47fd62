-- Lines that are long enough and areas that have rings are drawn.
use Rattle.std.proofs.Common.{◌≡◌, ◌≤◌, List, [], ◌∷◌, length, true, refl, ap, sym, subst, arith, nat_le}
use Rattle.std.proofs.lemmas.Bool.{le-leb}
use Rattle.std.specs.Prelude.{Option}
use Rattle.sc_geom.specs.declared.point.Pt.{Pt}
use Rattle.sc_geom.specs.Shapes.{beside}
use Rattle.sc_geom.specs.Drawn.{areas_only}
use Rattle.sc_wkt.specs.declared.drawing.Drawing as kept
use Rattle.sc_wkt.specs.Kept.{IsDrawing}
use Rattle.sc_wkt.specs.Drawing.{Drawing, with_line, with_area}

pub line_is : (d : Drawing) → 2 ≤ length d.path → with_line (nat_le 2 (length d.path)) d ≡ with_line true d
line_is d h = ap (λ b. with_line b d) (le-leb 2 (length d.path) h)

abbrev pub filled : List (List (Option Pt)) → Drawing → Drawing
filled rings d = record d { sketch = beside d.sketch (areas_only (rings ∷ [])); rings = [] }

pub area_is : (d : Drawing) → 1 ≤ length d.rings → with_area d.rings d ≡ filled d.rings d
area_is d h = by_rings d.rings h
  where
    by_rings : (rings : List (List (Option Pt))) → 1 ≤ length rings → with_area rings d ≡ filled rings d
    by_rings [] h = absurd (omega arith)
    by_rings (ring ∷ rings) h = refl

pub same_drawing : (k : kept.Drawing) (d e : Drawing) → d ≡ e → IsDrawing k e → IsDrawing k d
same_drawing k d e same is = subst (λ (x : Drawing). IsDrawing k x) (sym same) is
