-- The grammar of CQL2 text and of the WKT within it (OGC 21-065r2, Annex B), as alternatives of items: the printed rule
-- stands above each. `{ .. }` is a rule of its own, with an empty alternative, and so is `[ .. ]` where one token can't
-- tell it; a mark says what is done with what stands before it.
use Rattle.std.specs.Prelude.{List, [], ◌∷◌}
use Rattle.sc_grammar.specs.Grammar.{Item, tok, non, act}
use Rattle.sc_grammar.specs.Classes.{In}
use Rattle.sc_grammar.specs.declared.token.Class.{Class}
use Rattle.sc_grammar.specs.declared.token.Class.TheVariants as classes
use Rattle.sc_cqlgrammar.specs.declared.rule.Rule.{Rule}
use Rattle.sc_cqlgrammar.specs.declared.rule.Rule.TheVariants as rules
use Rattle.sc_cqlgrammar.specs.declared.mark.Mark.{Mark}
use Rattle.sc_cqlgrammar.specs.declared.mark.Mark.TheVariants as marks

abbrev pub Items : Type 0
Items = List (Item Class Rule Mark)

abbrev pub alternatives : Rule → List Items
-- a whole text: a filter, and the end
alternatives rules.Whole =
    (non rules.Filter ∷ tok classes.End ∷ []) ∷
    []
-- filter = term { OR term }
alternatives rules.Filter =
    (act marks.Chain ∷ non rules.Term ∷ act marks.Link ∷ non rules.OrRest ∷ act marks.Or ∷ []) ∷
    []
alternatives rules.OrRest =
    (tok classes.Or ∷ non rules.Term ∷ act marks.Link ∷ non rules.OrRest ∷ []) ∷
    [] ∷
    []
-- term = factor { AND factor }
alternatives rules.Term =
    (act marks.Chain ∷ non rules.Factor ∷ act marks.Link ∷ non rules.AndRest ∷ act marks.And ∷ []) ∷
    []
alternatives rules.AndRest =
    (tok classes.And ∷ non rules.Factor ∷ act marks.Link ∷ non rules.AndRest ∷ []) ∷
    [] ∷
    []
-- factor = [ NOT ] primary
alternatives rules.Factor =
    (tok classes.Not ∷ non rules.Primary ∷ act marks.Negate ∷ []) ∷
    (non rules.Primary ∷ []) ∷
    []
-- primary = "(" filter ")" | predicate | TRUE | FALSE
--
-- TRUE and FALSE are scalars before a test, else primaries
alternatives rules.Primary =
    (tok classes.Opening ∷ non rules.Filter ∷ tok classes.Closing ∷ []) ∷
    (tok classes.True ∷ act marks.True ∷ non rules.TruthRest ∷ []) ∷
    (tok classes.False ∷ act marks.False ∷ non rules.TruthRest ∷ []) ∷
    (non rules.Operand ∷ non rules.Test ∷ []) ∷
    (tok classes.SIntersects ∷ tok classes.Opening ∷ non rules.Shape ∷ tok classes.Comma ∷ non rules.Shape ∷ tok classes.Closing ∷ act marks.Meets ∷ []) ∷
    []
alternatives rules.TruthRest =
    (non rules.Test ∷ []) ∷
    (act marks.Constant ∷ []) ∷
    []
-- what stands behind the first scalar of a predicate:
--
--   compare scalar
-- | IS [ NOT ] NULL
-- | [ NOT ] BETWEEN scalar AND scalar
-- | [ NOT ] IN "(" scalar { "," scalar } ")"
-- | [ NOT ] LIKE pattern
alternatives rules.Test =
    (tok classes.Equal ∷ non rules.Scalar ∷ act marks.Equal ∷ []) ∷
    (tok classes.NotEqual ∷ non rules.Scalar ∷ act marks.NotEqual ∷ []) ∷
    (tok classes.Less ∷ non rules.Scalar ∷ act marks.Less ∷ []) ∷
    (tok classes.Greater ∷ non rules.Scalar ∷ act marks.Greater ∷ []) ∷
    (tok classes.AtMost ∷ non rules.Scalar ∷ act marks.AtMost ∷ []) ∷
    (tok classes.AtLeast ∷ non rules.Scalar ∷ act marks.AtLeast ∷ []) ∷
    (tok classes.Is ∷ non rules.NullTest ∷ []) ∷
    (tok classes.Not ∷ non rules.Negatable ∷ act marks.Negate ∷ []) ∷
    (non rules.Negatable ∷ []) ∷
    []
alternatives rules.NullTest =
    (tok classes.Null ∷ act marks.IsNull ∷ []) ∷
    (tok classes.Not ∷ tok classes.Null ∷ act marks.IsNull ∷ act marks.Negate ∷ []) ∷
    []
alternatives rules.Negatable =
    (tok classes.Between ∷ non rules.Scalar ∷ tok classes.And ∷ non rules.Scalar ∷ act marks.Between ∷ []) ∷
    (tok classes.In ∷ tok classes.Opening ∷ act marks.List ∷ non rules.Scalar ∷ act marks.Element ∷ non rules.ScalarRest ∷ tok classes.Closing ∷ act marks.Among ∷ []) ∷
    (tok classes.Like ∷ non rules.Pattern ∷ act marks.Like ∷ []) ∷
    []
alternatives rules.ScalarRest =
    (tok classes.Comma ∷ non rules.Scalar ∷ act marks.Element ∷ non rules.ScalarRest ∷ []) ∷
    [] ∷
    []
-- scalar = name | text | number | TRUE | FALSE | TIMESTAMP "(" text ")" | DATE "(" text ")" | CASEI "(" scalar ")"
alternatives rules.Scalar =
    (tok classes.True ∷ act marks.True ∷ []) ∷
    (tok classes.False ∷ act marks.False ∷ []) ∷
    (non rules.Operand ∷ []) ∷
    []
alternatives rules.Operand =
    (non rules.Name ∷ act marks.Property ∷ []) ∷
    (tok classes.Text ∷ act marks.Text ∷ []) ∷
    (tok classes.Number ∷ act marks.Number ∷ []) ∷
    (tok classes.Timestamp ∷ tok classes.Opening ∷ tok classes.Text ∷ act marks.Instant ∷ tok classes.Closing ∷ []) ∷
    (tok classes.Date ∷ tok classes.Opening ∷ tok classes.Text ∷ act marks.Day ∷ tok classes.Closing ∷ []) ∷
    (tok classes.Casei ∷ tok classes.Opening ∷ non rules.Scalar ∷ tok classes.Closing ∷ act marks.Fold ∷ []) ∷
    []
alternatives rules.Name =
    (tok classes.Name ∷ []) ∷
    (tok classes.QuotedName ∷ []) ∷
    (tok classes.Z ∷ []) ∷
    []
-- pattern = text | CASEI "(" pattern ")"
alternatives rules.Pattern =
    (tok classes.Text ∷ act marks.Pattern ∷ []) ∷
    (tok classes.Casei ∷ tok classes.Opening ∷ non rules.Pattern ∷ tok classes.Closing ∷ act marks.FoldPattern ∷ []) ∷
    []
-- shape = name | geometry
--       | BBOX "(" number "," number "," number "," number [ "," number "," number ] ")"
alternatives rules.Shape =
    (non rules.Name ∷ act marks.NamedShape ∷ []) ∷
    (act marks.Outermost ∷ non rules.Geometry ∷ act marks.Geometry ∷ []) ∷
    (tok classes.Bbox ∷ act marks.Box ∷ tok classes.Opening ∷ tok classes.Number ∷ act marks.Side ∷ tok classes.Comma ∷ tok classes.Number ∷ act marks.Side ∷ tok classes.Comma ∷ tok classes.Number ∷ act marks.Side ∷ tok classes.Comma ∷ tok classes.Number ∷ act marks.Side ∷ non rules.SideRest ∷ tok classes.Closing ∷ act marks.Rectangles ∷ []) ∷
    []
alternatives rules.SideRest =
    (tok classes.Comma ∷ tok classes.Number ∷ act marks.Side ∷ tok classes.Comma ∷ tok classes.Number ∷ act marks.Side ∷ []) ∷
    [] ∷
    []
-- geometry = POINT [Z] "(" position ")"
--          | LINESTRING [Z] line
--          | POLYGON [Z] area
--          | MULTIPOINT [Z] "(" member { "," member } ")"
--          | MULTILINESTRING [Z] "(" line { "," line } ")"
--          | MULTIPOLYGON [Z] "(" area { "," area } ")"
--          | GEOMETRYCOLLECTION [Z] "(" geometry { "," geometry } ")"
alternatives rules.Geometry =
    (tok classes.Point ∷ non rules.ZWord ∷ tok classes.Opening ∷ non rules.Position ∷ act marks.Points ∷ tok classes.Closing ∷ []) ∷
    (tok classes.LineString ∷ non rules.ZWord ∷ non rules.Line ∷ []) ∷
    (tok classes.Polygon ∷ non rules.ZWord ∷ non rules.Area ∷ []) ∷
    (tok classes.MultiPoint ∷ non rules.ZWord ∷ tok classes.Opening ∷ non rules.Member ∷ non rules.MemberRest ∷ act marks.Points ∷ tok classes.Closing ∷ []) ∷
    (tok classes.MultiLineString ∷ non rules.ZWord ∷ tok classes.Opening ∷ non rules.Line ∷ non rules.LineRest ∷ tok classes.Closing ∷ []) ∷
    (tok classes.MultiPolygon ∷ non rules.ZWord ∷ tok classes.Opening ∷ non rules.Area ∷ non rules.AreaRest ∷ tok classes.Closing ∷ []) ∷
    (tok classes.GeometryCollection ∷ non rules.ZWord ∷ tok classes.Opening ∷ non rules.Geometry ∷ non rules.GeometryRest ∷ tok classes.Closing ∷ []) ∷
    []
alternatives rules.ZWord =
    (tok classes.Z ∷ []) ∷
    [] ∷
    []
alternatives rules.GeometryRest =
    (tok classes.Comma ∷ non rules.Geometry ∷ non rules.GeometryRest ∷ []) ∷
    [] ∷
    []
-- member = "(" position ")" | position
alternatives rules.Member =
    (tok classes.Opening ∷ non rules.Position ∷ tok classes.Closing ∷ []) ∷
    (non rules.Position ∷ []) ∷
    []
alternatives rules.MemberRest =
    (tok classes.Comma ∷ non rules.Member ∷ non rules.MemberRest ∷ []) ∷
    [] ∷
    []
-- line = "(" position { "," position } ")"
--
-- a line of a geometry, and a ring of an area
alternatives rules.Line =
    (tok classes.Opening ∷ non rules.Position ∷ non rules.PositionRest ∷ act marks.Line ∷ tok classes.Closing ∷ []) ∷
    []
alternatives rules.Ring =
    (tok classes.Opening ∷ non rules.Position ∷ non rules.PositionRest ∷ act marks.Ring ∷ tok classes.Closing ∷ []) ∷
    []
alternatives rules.LineRest =
    (tok classes.Comma ∷ non rules.Line ∷ non rules.LineRest ∷ []) ∷
    [] ∷
    []
-- area = "(" line { "," line } ")"
alternatives rules.Area =
    (tok classes.Opening ∷ non rules.Ring ∷ non rules.RingRest ∷ act marks.Area ∷ tok classes.Closing ∷ []) ∷
    []
alternatives rules.AreaRest =
    (tok classes.Comma ∷ non rules.Area ∷ non rules.AreaRest ∷ []) ∷
    [] ∷
    []
alternatives rules.RingRest =
    (tok classes.Comma ∷ non rules.Ring ∷ non rules.RingRest ∷ []) ∷
    [] ∷
    []
-- position = number number [ number ]
alternatives rules.Position =
    (tok classes.Number ∷ act marks.Longitude ∷ tok classes.Number ∷ act marks.Latitude ∷ non rules.Height ∷ []) ∷
    []
alternatives rules.Height =
    (tok classes.Number ∷ act marks.Height ∷ []) ∷
    [] ∷
    []
alternatives rules.PositionRest =
    (tok classes.Comma ∷ non rules.Position ∷ non rules.PositionRest ∷ []) ∷
    [] ∷
    []

abbrev pub IsAlternative : Rule → Items → Type 0
IsAlternative n items = In items (alternatives n)
