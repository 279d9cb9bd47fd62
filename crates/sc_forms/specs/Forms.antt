-- What the forms of CQL2 text mean (OGC 21-065r2, Annex B): each printed rule with the value of what it derives, by the values
-- of its parts, without the marks of the grammar and without a stack.
use Rattle.std.specs.Prelude.{◌≡◌, ℕ, ℤ, List, [], ◌∷◌, ◌++◌, true, false, Some, None}
use Rattle.sc_decimal.specs.Number.{Number}
use Rattle.sc_geom.specs.declared.point.Pt.{Pt}
use Rattle.sc_geom.specs.declared.rects.Rects.{Rects}
use Rattle.sc_geom.specs.Shapes.{Shapes}
use Rattle.sc_geom.specs.Building.{Completes}
use Rattle.sc_geom.specs.Rects.{geometry_of}
use Rattle.sc_grammar.specs.Grammar.{Derives}
use Rattle.sc_grammar.specs.declared.token.Class.{Class}
use Rattle.sc_grammar.specs.declared.token.Class.TheVariants as classes
use Rattle.sc_grammar.specs.declared.token.Token.{Token}
use Rattle.sc_cqlgrammar.specs.declared.rule.Rule.{Rule}
use Rattle.sc_cqlgrammar.specs.declared.mark.Mark.{Mark}
use Rattle.sc_cqlgrammar.specs.Rules.{IsAlternative}
use Rattle.sc_cqlgrammar.specs.Reading.{class_of}
use Rattle.sc_wkt.specs.Drawing.{Drawing, blank, reads, draws, first_wide, is_bad}
use Rattle.sc_wkt.specs.Reading.{geometry}
use Rattle.sc_expr.specs.declared.scalar.Scalar.{Scalar}
use Rattle.sc_expr.specs.declared.scalar.Scalar.TheVariants as scalars
use Rattle.sc_expr.specs.declared.scalar.Pattern.{Pattern}
use Rattle.sc_expr.specs.declared.scalar.Shape.{Shape}
use Rattle.sc_expr.specs.declared.scalar.Shape.TheVariants as shapes
use Rattle.sc_expr.specs.declared.expr.CompOp.{CompOp}
use Rattle.sc_expr.specs.declared.expr.CompOp.TheVariants as ops
use Rattle.sc_expr.specs.declared.expr.Expr.{Expr}
use Rattle.sc_expr.specs.declared.expr.Expr.TheVariants as exprs
use Rattle.sc_cqlvalue.specs.Literals.{bytes_of, text_of, name_of, dec_of, instant_of, day_of}
use Rattle.sc_cqlvalue.specs.Boxes.{rects_of}

-- each token is of its class
abbrev pub AreOf : List Token → List Class → Type 0
AreOf [] [] = Unit {0}
AreOf [] (c ∷ cs) = ⊥
AreOf (t ∷ ts) [] = ⊥
AreOf (t ∷ ts) (c ∷ cs) = (t.class ≡ c) × AreOf ts cs

-- a word, a quoted name, or the word Z
abbrev pub IsName : Class → Type 0
IsName classes.Name = Unit {0}
IsName classes.QuotedName = Unit {0}
IsName classes.Z = Unit {0}
IsName _ = ⊥

abbrev pub sign_of : CompOp → Class
sign_of ops.Eq = classes.Equal
sign_of ops.Ne = classes.NotEqual
sign_of ops.Lt = classes.Less
sign_of ops.Gt = classes.Greater
sign_of ops.Le = classes.AtMost
sign_of ops.Ge = classes.AtLeast

-- scalar = name | text | number | TRUE | FALSE | TIMESTAMP "(" text ")" | DATE "(" text ")" | CASEI "(" scalar ")"
pub data ScalarOf (chars : List ℕ) : List Token → Scalar → Type 0 where
  name : (t : Token) (n : List ℕ) → IsName t.class → name_of t.class (bytes_of chars t) ≡ Some n → ScalarOf chars (t ∷ []) (scalars.Prop n)
  text : (t : Token) (s : List ℕ) → t.class ≡ classes.Text → text_of (bytes_of chars t) ≡ Some s → ScalarOf chars (t ∷ []) (scalars.Text s)
  number : (t : Token) (n : Number) → t.class ≡ classes.Number → dec_of (bytes_of chars t) ≡ Some n → ScalarOf chars (t ∷ []) (scalars.Number n)
  is_true : (t : Token) → t.class ≡ classes.True → ScalarOf chars (t ∷ []) (scalars.Truth true)
  is_false : (t : Token) → t.class ≡ classes.False → ScalarOf chars (t ∷ []) (scalars.Truth false)
  timestamp : (w o t c : Token) (at : ℤ) → AreOf (w ∷ o ∷ t ∷ c ∷ []) (classes.Timestamp ∷ classes.Opening ∷ classes.Text ∷ classes.Closing ∷ []) →
      instant_of (bytes_of chars t) ≡ Some at → ScalarOf chars (w ∷ o ∷ t ∷ c ∷ []) (scalars.Moment at)
  -- the midnight at which the day begins
  date : (w o t c : Token) (at : ℤ) → AreOf (w ∷ o ∷ t ∷ c ∷ []) (classes.Date ∷ classes.Opening ∷ classes.Text ∷ classes.Closing ∷ []) →
      day_of (bytes_of chars t) ≡ Some at → ScalarOf chars (w ∷ o ∷ t ∷ c ∷ []) (scalars.Moment at)
  casei : (w o c : Token) (ts : List Token) (s : Scalar) → AreOf (w ∷ o ∷ c ∷ []) (classes.Casei ∷ classes.Opening ∷ classes.Closing ∷ []) →
      ScalarOf chars ts s → ScalarOf chars (w ∷ o ∷ (ts ++ c ∷ [])) (scalars.Folded s)

-- scalar { "," scalar }
pub data ScalarsOf (chars : List ℕ) : List Token → List Scalar → Type 0 where
  last_scalar : (ts : List Token) (s : Scalar) → ScalarOf chars ts s → ScalarsOf chars ts (s ∷ [])
  more_scalars : (ts us : List Token) (c : Token) (s : Scalar) (ss : List Scalar) → ScalarOf chars ts s → c.class ≡ classes.Comma → ScalarsOf chars us ss →
      ScalarsOf chars (ts ++ c ∷ us) (s ∷ ss)

-- pattern = text | CASEI "(" pattern ")"
pub data PatternOf (chars : List ℕ) : List Token → Pattern → Type 0 where
  plain_pattern : (t : Token) (s : List ℕ) → t.class ≡ classes.Text → text_of (bytes_of chars t) ≡ Some s → PatternOf chars (t ∷ []) (record { text = s; folded = false })
  folded_pattern : (w o c : Token) (ts : List Token) (p : Pattern) → AreOf (w ∷ o ∷ c ∷ []) (classes.Casei ∷ classes.Opening ∷ classes.Closing ∷ []) →
      PatternOf chars ts p → PatternOf chars (w ∷ o ∷ (ts ++ c ∷ [])) (record { text = p.text; folded = true })

-- the number that a token is
pub record IsNumber (chars : List ℕ) (t : Token) (n : Number) : Type 0 where
  pub class : t.class ≡ classes.Number
  pub value : dec_of (bytes_of chars t) ≡ Some n

-- a whole geometry, as `sc_wkt` tells what its tokens draw: it isn't bad, has at most 1,000 positions, and no number in it is
-- too wide
pub record IsGeometry (chars : List ℕ) (ts : List Token) (g : Shapes Pt) : Type 0 where
  pub drawing : Drawing
  pub derived : Derives Token Class Rule Mark Drawing class_of (reads chars) draws IsAlternative geometry blank ts drawing
  pub narrow : first_wide chars ts ≡ None
  pub good : is_bad 1000 drawing ≡ false
  pub drawn : Completes drawing.sketch g

-- shape = name | geometry
--       | BBOX "(" number "," number "," number "," number [ "," number "," number ] ")"
pub data ShapeOf (chars : List ℕ) : List Token → Shape → Type 0 where
  named_shape : (t : Token) (n : List ℕ) → IsName t.class → name_of t.class (bytes_of chars t) ≡ Some n → ShapeOf chars (t ∷ []) (shapes.Prop n)
  drawn_shape : (ts : List Token) (g : Shapes Pt) → IsGeometry chars ts g → ShapeOf chars ts (shapes.Geom g)
  -- west, south, east and north
  box : (w o a x b y c z d e : Token) (west south east north : Number) (rects : Rects) →
      AreOf (w ∷ o ∷ x ∷ y ∷ z ∷ e ∷ []) (classes.Bbox ∷ classes.Opening ∷ classes.Comma ∷ classes.Comma ∷ classes.Comma ∷ classes.Closing ∷ []) →
      IsNumber chars a west → IsNumber chars b south → IsNumber chars c east → IsNumber chars d north → rects_of (west ∷ south ∷ east ∷ north ∷ []) ≡ Some rects →
      ShapeOf chars (w ∷ o ∷ a ∷ x ∷ b ∷ y ∷ c ∷ z ∷ d ∷ e ∷ []) (shapes.Geom (geometry_of rects))
  -- with a height behind each corner
  high_box : (w o a x b y c z d p f q g e : Token) (west south low east north high : Number) (rects : Rects) →
      AreOf (w ∷ o ∷ x ∷ y ∷ z ∷ p ∷ q ∷ e ∷ []) (classes.Bbox ∷ classes.Opening ∷ classes.Comma ∷ classes.Comma ∷ classes.Comma ∷ classes.Comma ∷ classes.Comma ∷ classes.Closing ∷ []) →
      IsNumber chars a west → IsNumber chars b south → IsNumber chars c low → IsNumber chars d east → IsNumber chars f north → IsNumber chars g high →
      rects_of (west ∷ south ∷ low ∷ east ∷ north ∷ high ∷ []) ≡ Some rects →
      ShapeOf chars (w ∷ o ∷ a ∷ x ∷ b ∷ y ∷ c ∷ z ∷ d ∷ p ∷ f ∷ q ∷ g ∷ e ∷ []) (shapes.Geom (geometry_of rects))

-- what stands behind a scalar, and may stand behind NOT, and what both are:
--
--   BETWEEN scalar AND scalar | IN "(" scalar { "," scalar } ")" | LIKE pattern
pub data NegatableOf (chars : List ℕ) (operand : Scalar) : List Token → Expr → Type 0 where
  between : (b a : Token) (ls hs : List Token) (low high : Scalar) → AreOf (b ∷ a ∷ []) (classes.Between ∷ classes.And ∷ []) → ScalarOf chars ls low → ScalarOf chars hs high →
      NegatableOf chars operand (b ∷ (ls ++ a ∷ hs)) (exprs.Between operand low high)
  among : (i o c : Token) (ts : List Token) (ss : List Scalar) → AreOf (i ∷ o ∷ c ∷ []) (classes.In ∷ classes.Opening ∷ classes.Closing ∷ []) → ScalarsOf chars ts ss →
      NegatableOf chars operand (i ∷ o ∷ (ts ++ c ∷ [])) (exprs.Among operand ss)
  like : (l : Token) (ts : List Token) (pattern : Pattern) → l.class ≡ classes.Like → PatternOf chars ts pattern → NegatableOf chars operand (l ∷ ts) (exprs.Like operand pattern)

-- what stands behind a scalar, and what both are:
--
--   compare scalar | IS [ NOT ] NULL | [ NOT ] BETWEEN .. | [ NOT ] IN .. | [ NOT ] LIKE ..
--
-- each inner NOT is that of the form without it
pub data TestOf (chars : List ℕ) (operand : Scalar) : List Token → Expr → Type 0 where
  compare : (t : Token) (op : CompOp) (ts : List Token) (right : Scalar) → t.class ≡ sign_of op → ScalarOf chars ts right → TestOf chars operand (t ∷ ts) (exprs.Compare op operand right)
  is_null : (i n : Token) → AreOf (i ∷ n ∷ []) (classes.Is ∷ classes.Null ∷ []) → TestOf chars operand (i ∷ n ∷ []) (exprs.IsNull operand)
  is_not_null : (i t n : Token) → AreOf (i ∷ t ∷ n ∷ []) (classes.Is ∷ classes.Not ∷ classes.Null ∷ []) → TestOf chars operand (i ∷ t ∷ n ∷ []) (exprs.Not (exprs.IsNull operand))
  plain_test : (ts : List Token) (e : Expr) → NegatableOf chars operand ts e → TestOf chars operand ts e
  negated_test : (t : Token) (ts : List Token) (e : Expr) → t.class ≡ classes.Not → NegatableOf chars operand ts e → TestOf chars operand (t ∷ ts) (exprs.Not e)

-- a filter, the members of its chain, a term, the members of its chain, a factor, a primary
pub data Level : Type 0 where
  filter : Level
  terms : Level
  term : Level
  factors : Level
  factor : Level
  primary : Level

-- what the tokens mean on a level: the members of a chain in their order, and else one expression
pub data Means (chars : List ℕ) : Level → List Token → List Expr → Type 0 where
  -- filter = term { OR term }: one alone is itself, and more are joined
  alone_or : (ts : List Token) (e : Expr) → Means chars terms ts (e ∷ []) → Means chars filter ts (e ∷ [])
  joined_or : (ts : List Token) (e f : Expr) (es : List Expr) → Means chars terms ts (e ∷ f ∷ es) → Means chars filter ts (exprs.Or (e ∷ f ∷ es) ∷ [])
  last_term : (ts : List Token) (e : Expr) → Means chars term ts (e ∷ []) → Means chars terms ts (e ∷ [])
  more_terms : (ts us : List Token) (o : Token) (e : Expr) (es : List Expr) → Means chars term ts (e ∷ []) → o.class ≡ classes.Or → Means chars terms us es → Means chars terms (ts ++ o ∷ us) (e ∷ es)
  -- term = factor { AND factor }
  alone_and : (ts : List Token) (e : Expr) → Means chars factors ts (e ∷ []) → Means chars term ts (e ∷ [])
  joined_and : (ts : List Token) (e f : Expr) (es : List Expr) → Means chars factors ts (e ∷ f ∷ es) → Means chars term ts (exprs.And (e ∷ f ∷ es) ∷ [])
  last_factor : (ts : List Token) (e : Expr) → Means chars factor ts (e ∷ []) → Means chars factors ts (e ∷ [])
  more_factors : (ts us : List Token) (a : Token) (e : Expr) (es : List Expr) → Means chars factor ts (e ∷ []) → a.class ≡ classes.And → Means chars factors us es → Means chars factors (ts ++ a ∷ us) (e ∷ es)
  -- factor = [ NOT ] primary
  plain_factor : (ts : List Token) (e : Expr) → Means chars primary ts (e ∷ []) → Means chars factor ts (e ∷ [])
  negated_factor : (t : Token) (ts : List Token) (e : Expr) → t.class ≡ classes.Not → Means chars primary ts (e ∷ []) → Means chars factor (t ∷ ts) (exprs.Not e ∷ [])
  -- primary = "(" filter ")" | predicate | TRUE | FALSE
  enclosed : (o c : Token) (ts : List Token) (e : Expr) → AreOf (o ∷ c ∷ []) (classes.Opening ∷ classes.Closing ∷ []) → Means chars filter ts (e ∷ []) → Means chars primary (o ∷ (ts ++ c ∷ [])) (e ∷ [])
  tested : (ts us : List Token) (operand : Scalar) (e : Expr) → ScalarOf chars ts operand → TestOf chars operand us e → Means chars primary (ts ++ us) (e ∷ [])
  meets : (s o m c : Token) (ts us : List Token) (left right : Shape) → AreOf (s ∷ o ∷ m ∷ c ∷ []) (classes.SIntersects ∷ classes.Opening ∷ classes.Comma ∷ classes.Closing ∷ []) →
      ShapeOf chars ts left → ShapeOf chars us right → Means chars primary (s ∷ o ∷ (ts ++ m ∷ (us ++ c ∷ []))) (exprs.Meets left right ∷ [])
  true_alone : (t : Token) → t.class ≡ classes.True → Means chars primary (t ∷ []) (exprs.Const true ∷ [])
  false_alone : (t : Token) → t.class ≡ classes.False → Means chars primary (t ∷ []) (exprs.Const false ∷ [])
