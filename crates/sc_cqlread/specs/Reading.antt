-- What the tokens and the marks of a filter's grammar make of what was read (OGC 21-065r2, Annex B): the values, and beside
-- them the geometry that is drawn, and the literals that can't be read.
use Rattle.std.specs.Prelude.{◌≡◌, ℕ, min, List, false, Option, Some, None, Result, Ok, Err, if◌then◌else◌}
use Rattle.std.specs.Option.{option_or}
use Rattle.sc_geom.specs.declared.point.Pt.{Pt}
use Rattle.sc_geom.specs.Building.{settled}
use Rattle.sc_geom.specs.Shapes.{Shapes, map_shapes}
use Rattle.sc_geom.specs.Sketch.{Sketch}
use Rattle.sc_grammar.specs.declared.token.Token.{Token}
use Rattle.sc_cqlgrammar.specs.declared.mark.Mark.{Mark}
use Rattle.sc_cqlgrammar.specs.declared.mark.Mark.TheVariants as marks
use Rattle.sc_wkt.specs.Drawing.{Drawing, blank, reads, draws, wide_at, is_bad, FailsByMemoryAlone}
use Rattle.sc_cqlvalue.specs.declared.state.State.{State}
use Rattle.sc_cqlvalue.specs.Values as values

-- `word` is where the first token stands since the last outermost geometry began, and none before that token. `wide` is where
-- the first number stands that is too wide.
pub record Reading : Type 0 where
  pub values : State
  pub drawing : Drawing
  pub word : Option ℕ
  pub wide : Option ℕ

abbrev pub start : Reading
start = record { values = values.start; drawing = blank; word = None; wide = None }

-- ---- tokens

unfoldable pub eats : List ℕ → Token → Reading → Reading
eats chars token r = record {
  values = values.eats token r.values;
  drawing = reads chars token r.drawing;
  word = option_or r.word (Some token.from);
  wide = option_or r.wide (wide_at chars token);
}

-- ---- geometries

abbrev pub place_of : Option ℕ → ℕ
place_of None = 0
place_of (Some place) = place

abbrev pub unless_wide : Option ℕ → Sketch → Result (Shapes Pt) ℕ
unless_wide None sketch = Ok (map_shapes settled sketch)
unless_wide (Some place) sketch = Err place

-- what an outermost geometry is that is whole. One that is bad is refused at its first word. Where a number was too wide, in
-- it or before it, that one's place stands for it: the text is refused for that number then, and the geometry isn't seen
abbrev pub drawn : Reading → Result (Shapes Pt) ℕ
drawn r = if is_bad 1000 r.drawing then Err (place_of r.word) else unless_wide r.wide r.drawing.sketch

-- the geometry that ends here is finished where it is one, unless memory runs out
abbrev pub CanEnd : Reading → Type 0
CanEnd r = is_bad 1000 r.drawing ≡ false → r.wide ≡ None → FailsByMemoryAlone 1000 r.drawing

abbrev pub geometry_begun : Reading → Reading
geometry_begun r = record r { drawing = blank; word = None }

abbrev pub geometry_ended : Reading → Reading
geometry_ended r = record r { values = values.with_geometry (drawn r) r.values; drawing = blank }

-- ---- marks

unfoldable pub does : List ℕ → Mark → Reading → Reading
does chars marks.Outermost r = geometry_begun r
does chars marks.Geometry r = geometry_ended r
does chars mark r = record r { values = values.does chars mark r.values; drawing = draws mark r.drawing }

-- ---- literals that can't be read

abbrev pub lesser : Option ℕ → Option ℕ → Option ℕ
lesser None b = b
lesser (Some a) None = Some a
lesser (Some a) (Some b) = Some (min a b)

-- the least place of a literal that can't be read
abbrev pub bad_of : Reading → Option ℕ
bad_of r = lesser r.values.bad r.wide
