-- The geometry at the front of a text, and the first fault where there is none.
use Rattle.std.specs.Prelude.{◌≡◌, ◌⊎◌, ℕ, ◌≤◌, List, take, length, Bool, true, false, ◌==◌, Option, Some, None, Result, Ok, Err}
use Rattle.std.specs.Str.Lossy.{utf8_valid_len}
use Rattle.sc_geom.specs.declared.point.Pt.{Pt}
use Rattle.sc_geom.specs.Shapes.{Shapes}
use Rattle.sc_geom.specs.Building.{Completes}
use Rattle.sc_geom.specs.Answers.{count_of}
use Rattle.sc_grammar.specs.declared.token.Token.{Token}
use Rattle.sc_wkt.specs.declared.fault.WktFault.{WktFault}
use Rattle.sc_wkt.specs.declared.fault.WktFault.TheVariants.{Syntax, BadLiteral, OutOfMemory}
use Rattle.sc_wkt.specs.Drawing.{Drawing, first_wide, is_bad}
use Rattle.sc_wkt.specs.Levels.{next_token}
use Rattle.sc_wkt.specs.Reading.{Draws, Stops}

-- the whole characters of UTF-8 at the front, of which tokens are formed
abbrev pub readable : List ℕ → List ℕ
readable bytes = take (utf8_valid_len bytes) bytes

abbrev pub is_readable : List ℕ → Bool
is_readable bytes = utf8_valid_len bytes == length bytes

-- a whole geometry, and these are its tokens, where it ends, and what it draws
abbrev pub IsWhole : List ℕ → List Token → ℕ → Drawing → Type 0
IsWhole bytes = Draws (readable bytes) (is_readable bytes)

-- no whole geometry: the tokens in front of the first that no front goes on with, and its place
abbrev pub IsCutAt : List ℕ → List Token → ℕ → Type 0
IsCutAt bytes = Stops (readable bytes) (is_readable bytes)

abbrev pub wide_in : List ℕ → List Token → Option ℕ
wide_in bytes = first_wide (readable bytes)

-- where the first word stands
abbrev pub first_place : List ℕ → ℕ
first_place bytes = (next_token (readable bytes) (is_readable bytes) 0 0).from

pub record IsGeometryOf (bytes : List ℕ) (most : ℕ) (geometry : Shapes Pt) (to : ℕ) : Type 0 where
  pub tokens : List Token
  pub drawing : Drawing
  pub whole : IsWhole bytes tokens to drawing
  pub narrow : wide_in bytes tokens ≡ None
  pub good : is_bad most drawing ≡ false
  pub drawn : Completes drawing.sketch geometry
  pub few : count_of geometry ≤ most

pub record IsSyntax (bytes : List ℕ) (at : ℕ) : Type 0 where
  pub tokens : List Token
  pub cut : IsCutAt bytes tokens at
  pub narrow : wide_in bytes tokens ≡ None

-- a whole geometry that is none, at its first word
pub record IsBadGeometry (bytes : List ℕ) (most at : ℕ) : Type 0 where
  pub tokens : List Token
  pub to : ℕ
  pub drawing : Drawing
  pub whole : IsWhole bytes tokens to drawing
  pub bad : is_bad most drawing ≡ true
  pub place : at ≡ first_place bytes

-- a number that is too wide, at its place, in a whole geometry that is bad by nothing else
pub record IsWideInside (bytes : List ℕ) (most at : ℕ) : Type 0 where
  pub tokens : List Token
  pub to : ℕ
  pub drawing : Drawing
  pub whole : IsWhole bytes tokens to drawing
  pub good : is_bad most drawing ≡ false
  pub wide : wide_in bytes tokens ≡ Some at

-- a number that is too wide, before the place at which no whole geometry goes on
pub record IsWideBefore (bytes : List ℕ) (at : ℕ) : Type 0 where
  pub tokens : List Token
  pub stop : ℕ
  pub cut : IsCutAt bytes tokens stop
  pub wide : wide_in bytes tokens ≡ Some at

-- what is answered
abbrev pub WktAnswers : List ℕ → ℕ → Result (Shapes Pt × ℕ) WktFault → Type 0
WktAnswers bytes most (Ok (geometry, to)) = IsGeometryOf bytes most geometry to
WktAnswers bytes most (Err (Syntax at)) = IsSyntax bytes at
WktAnswers bytes most (Err (BadLiteral at)) = IsBadGeometry bytes most at ⊎ IsWideInside bytes most at ⊎ IsWideBefore bytes at
WktAnswers bytes most (Err OutOfMemory) = Unit {0}
