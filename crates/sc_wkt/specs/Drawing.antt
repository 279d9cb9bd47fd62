-- What the tokens and marks of a geometry draw: positions, and the points, lines and areas that they make, in order.
use Rattle.std.specs.Prelude.{◌≡◌, ℕ, ℤ, pos, List, [], ◌∷◌, ◌++◌, length, Bool, true, false, ◌&&◌, ◌||◌, not, nat_le, nat_lt, is_none, Option, Some, None, Err, if◌then◌else◌}
use Rattle.std.specs.Option.{option_and_then, option_or}
use Rattle.sc_decimal.specs.Number.{Number}
use Rattle.sc_decimal.specs.Value.{is_number, is_wide, number_of}
use Rattle.sc_geom.specs.declared.point.Pt.{Pt}
use Rattle.sc_geom.specs.Place.{longitude_of, latitude_of, place_from}
use Rattle.sc_geom.specs.Shapes.{nothing, beside}
use Rattle.sc_geom.specs.Sketch.{Sketch, has_open_ring}
use Rattle.sc_geom.specs.Drawn.{points_only, lines_only, areas_only}
use Rattle.sc_geom.specs.Answers.{count_of}
use Rattle.sc_geom.specs.Building.{Finishes}
use Rattle.sc_geom.specs.declared.fault.GeomFault.{GeomFault}
use Rattle.sc_geom.specs.declared.fault.GeomFault.TheVariants as faults
use Rattle.sc_grammar.specs.Words.{bytes_of}
use Rattle.sc_grammar.specs.declared.token.Class.{Class}
use Rattle.sc_grammar.specs.declared.token.Class.TheVariants as classes
use Rattle.sc_grammar.specs.declared.token.Token.{Token}
use Rattle.sc_cqlgrammar.specs.declared.mark.Mark.{Mark}
use Rattle.sc_cqlgrammar.specs.declared.mark.Mark.TheVariants as marks

-- `number` is the number before, and none where it is too wide. A coordinate, or a position of which one is out of range or
-- not known, is none. `path` has the positions behind the last shape, and `rings` the rings behind the last area.
pub record Drawing : Type 0 where
  pub number : Option Number
  pub longitude : Option ℤ
  pub path : List (Option Pt)
  pub rings : List (List (Option Pt))
  pub sketch : Sketch
  pub is_outside : Bool
  pub is_short : Bool

-- a new drawing; there is no number yet, and zero stands for it
abbrev pub blank : Drawing
blank = record {
  number = Some (record { neg = false; m = 0; e = pos 0 });
  longitude = Some (pos 0);
  path = [];
  rings = [];
  sketch = nothing;
  is_outside = false;
  is_short = false;
}

-- ---- tokens

-- the number that the bytes of a number token are; none where it is too wide
abbrev pub number_in : List ℕ → Option Number
number_in bytes = if is_number bytes && not (is_wide bytes) then Some (number_of bytes) else None

abbrev pub reads_class : Class → List ℕ → Drawing → Drawing
reads_class classes.Number bytes d = record d { number = number_in bytes }
reads_class _ bytes d = d

-- a number is known until the next one
abbrev pub reads : List ℕ → Token → Drawing → Drawing
reads text token d = reads_class token.class (bytes_of text token.from token.to) d

abbrev pub wide_of : Class → List ℕ → ℕ → Option ℕ
wide_of classes.Number bytes at = if is_none (number_in bytes) then Some at else None
wide_of _ bytes at = None

-- where the token stands if it is a number that is too wide
abbrev pub wide_at : List ℕ → Token → Option ℕ
wide_at text token = wide_of token.class (bytes_of text token.from token.to) token.from

-- where the first number token stands that is too wide
abbrev pub first_wide : List ℕ → List Token → Option ℕ
first_wide text [] = None
first_wide text (token ∷ tokens) = option_or (wide_at text token) (first_wide text tokens)

-- ---- marks

-- whether a number that is known is out of range
abbrev pub leaves : (Number → Option ℤ) → Option Number → Bool
leaves coordinate None = false
leaves coordinate (Some number) = is_none (coordinate number)

abbrev pub with_line : Bool → Drawing → Drawing
with_line true d = record d { sketch = beside d.sketch (lines_only (d.path ∷ [])); path = [] }
with_line false d = record d { is_short = true; path = [] }

abbrev pub with_area : List (List (Option Pt)) → Drawing → Drawing
with_area [] d = d
with_area (ring ∷ rings) d = record d { sketch = beside d.sketch (areas_only ((ring ∷ rings) ∷ [])); rings = [] }

abbrev pub draws : Mark → Drawing → Drawing
draws marks.Longitude d = record d {
  longitude = option_and_then longitude_of d.number;
  is_outside = d.is_outside || leaves longitude_of d.number;
}
draws marks.Latitude d = record d {
  path = d.path ++ place_from d.longitude (option_and_then latitude_of d.number) ∷ [];
  is_outside = d.is_outside || leaves latitude_of d.number;
}
draws marks.Points d = record d { sketch = beside d.sketch (points_only d.path); path = [] }
draws marks.Line d = with_line (nat_le 2 (length d.path)) d
draws marks.Ring d = record d { rings = d.rings ++ d.path ∷ []; path = [] }
draws marks.Area d = with_area d.rings d
draws _ d = d

-- ---- what makes a whole geometry none

-- a line of fewer than 2 positions, an open ring, a coordinate out of range, or more positions than may be
abbrev pub is_bad : ℕ → Drawing → Bool
is_bad most d = d.is_short || has_open_ring d.sketch || d.is_outside || nat_lt most (count_of d.sketch)

-- where what is drawn isn't finished, memory ran out
abbrev pub FailsByMemoryAlone : ℕ → Drawing → Type 0
FailsByMemoryAlone most d = (fault : GeomFault) → Finishes (Err fault) d.sketch most → fault ≡ faults.OutOfMemory
