-- What may come first in each rule, which rules may be empty, what may come behind each, and the alternative that the next
-- token picks by these.
use Rattle.std.specs.Prelude.{ℕ, List, [], ◌∷◌, ◌++◌, Bool, true, false, ◌&&◌, ◌||◌, ◌==◌, Option, find}
use Rattle.sc_grammar.specs.Classes.{is_in, nullable, firsts}
use Rattle.sc_grammar.specs.declared.token.Class.{Class}
use Rattle.sc_grammar.specs.declared.token.Class.TheVariants as classes
use Rattle.sc_cqlgrammar.specs.declared.rule.Rule.{Rule}
use Rattle.sc_cqlgrammar.specs.declared.rule.Rule.TheVariants as rules
use Rattle.sc_cqlgrammar.specs.Rules.{Items, alternatives}

-- the number of a class among all
abbrev pub number_of : Class → ℕ
number_of classes.Or = 0
number_of classes.And = 1
number_of classes.Not = 2
number_of classes.Like = 3
number_of classes.Between = 4
number_of classes.In = 5
number_of classes.Is = 6
number_of classes.Null = 7
number_of classes.True = 8
number_of classes.False = 9
number_of classes.Casei = 10
number_of classes.SIntersects = 11
number_of classes.Timestamp = 12
number_of classes.Date = 13
number_of classes.Bbox = 14
number_of classes.Point = 15
number_of classes.LineString = 16
number_of classes.Polygon = 17
number_of classes.MultiPoint = 18
number_of classes.MultiLineString = 19
number_of classes.MultiPolygon = 20
number_of classes.GeometryCollection = 21
number_of classes.Z = 22
number_of classes.Name = 23
number_of classes.QuotedName = 24
number_of classes.Text = 25
number_of classes.Number = 26
number_of classes.Equal = 27
number_of classes.NotEqual = 28
number_of classes.Less = 29
number_of classes.Greater = 30
number_of classes.AtMost = 31
number_of classes.AtLeast = 32
number_of classes.Opening = 33
number_of classes.Closing = 34
number_of classes.Comma = 35
number_of classes.Bad = 36
number_of classes.End = 37

abbrev pub same : Class → Class → Bool
same a b = number_of a == number_of b

-- ---- what may come first

abbrev pub names : List Class
names = classes.Name ∷ classes.QuotedName ∷ classes.Z ∷ []

abbrev pub operands : List Class
operands = names ++ classes.Text ∷ classes.Number ∷ classes.Timestamp ∷ classes.Date ∷ classes.Casei ∷ []

abbrev pub scalars : List Class
scalars = classes.True ∷ classes.False ∷ operands

abbrev pub primaries : List Class
primaries = classes.Opening ∷ classes.SIntersects ∷ scalars

abbrev pub negatables : List Class
negatables = classes.Between ∷ classes.In ∷ classes.Like ∷ []

abbrev pub tests : List Class
tests = classes.Equal ∷ classes.NotEqual ∷ classes.Less ∷ classes.Greater ∷ classes.AtMost ∷ classes.AtLeast ∷ classes.Is ∷ classes.Not ∷ negatables

abbrev pub geometries : List Class
geometries = classes.Point ∷ classes.LineString ∷ classes.Polygon ∷ classes.MultiPoint ∷ classes.MultiLineString ∷ classes.MultiPolygon ∷ classes.GeometryCollection ∷ []

abbrev pub starts : Rule → List Class
starts rules.Whole = classes.Not ∷ primaries
starts rules.Filter = classes.Not ∷ primaries
starts rules.OrRest = classes.Or ∷ []
starts rules.Term = classes.Not ∷ primaries
starts rules.AndRest = classes.And ∷ []
starts rules.Factor = classes.Not ∷ primaries
starts rules.Primary = primaries
starts rules.TruthRest = tests
starts rules.Test = tests
starts rules.NullTest = classes.Not ∷ classes.Null ∷ []
starts rules.Negatable = negatables
starts rules.ScalarRest = classes.Comma ∷ []
starts rules.Scalar = scalars
starts rules.Operand = operands
starts rules.Name = names
starts rules.Pattern = classes.Casei ∷ classes.Text ∷ []
starts rules.Shape = classes.Bbox ∷ names ++ geometries
starts rules.SideRest = classes.Comma ∷ []
starts rules.Geometry = geometries
starts rules.ZWord = classes.Z ∷ []
starts rules.GeometryRest = classes.Comma ∷ []
starts rules.Member = classes.Number ∷ classes.Opening ∷ []
starts rules.MemberRest = classes.Comma ∷ []
starts rules.Line = classes.Opening ∷ []
starts rules.LineRest = classes.Comma ∷ []
starts rules.Area = classes.Opening ∷ []
starts rules.AreaRest = classes.Comma ∷ []
starts rules.Ring = classes.Opening ∷ []
starts rules.RingRest = classes.Comma ∷ []
starts rules.Position = classes.Number ∷ []
starts rules.Height = classes.Number ∷ []
starts rules.PositionRest = classes.Comma ∷ []

-- ---- what may be empty

abbrev pub is_empty : Rule → Bool
is_empty rules.OrRest = true
is_empty rules.AndRest = true
is_empty rules.TruthRest = true
is_empty rules.ScalarRest = true
is_empty rules.SideRest = true
is_empty rules.ZWord = true
is_empty rules.GeometryRest = true
is_empty rules.MemberRest = true
is_empty rules.LineRest = true
is_empty rules.AreaRest = true
is_empty rules.RingRest = true
is_empty rules.Height = true
is_empty rules.PositionRest = true
is_empty _ = false

-- ---- what may come behind

abbrev pub behind_filter : List Class
behind_filter = classes.Closing ∷ classes.End ∷ []

abbrev pub behind_term : List Class
behind_term = classes.Or ∷ behind_filter

abbrev pub behind_factor : List Class
behind_factor = classes.And ∷ behind_term

abbrev pub behind_scalar : List Class
behind_scalar = classes.Comma ∷ behind_factor

abbrev pub behind_operand : List Class
behind_operand = tests ++ behind_scalar

abbrev pub in_list : List Class
in_list = classes.Comma ∷ classes.Closing ∷ []

abbrev pub follows : Rule → List Class
follows rules.Whole = []
follows rules.Filter = behind_filter
follows rules.OrRest = behind_filter
follows rules.Term = behind_term
follows rules.AndRest = behind_term
follows rules.Factor = behind_factor
follows rules.Primary = behind_factor
follows rules.TruthRest = behind_factor
follows rules.Test = behind_factor
follows rules.NullTest = behind_factor
follows rules.Negatable = behind_factor
follows rules.ScalarRest = classes.Closing ∷ []
follows rules.Scalar = behind_scalar
follows rules.Operand = behind_operand
follows rules.Name = behind_operand
follows rules.Pattern = behind_factor
follows rules.Shape = in_list
follows rules.SideRest = classes.Closing ∷ []
follows rules.Geometry = in_list
follows rules.ZWord = classes.Opening ∷ []
follows rules.GeometryRest = classes.Closing ∷ []
follows rules.Member = in_list
follows rules.MemberRest = classes.Closing ∷ []
follows rules.Line = in_list
follows rules.LineRest = classes.Closing ∷ []
follows rules.Area = in_list
follows rules.AreaRest = classes.Closing ∷ []
follows rules.Ring = in_list
follows rules.RingRest = classes.Closing ∷ []
follows rules.Position = in_list
follows rules.Height = in_list
follows rules.PositionRest = classes.Closing ∷ []

-- ---- what the next token picks

-- whether the alternative may begin with the class, or be empty with the class behind the rule
abbrev pub is_picked : Rule → Class → Items → Bool
is_picked n c items = is_in same c (firsts starts is_empty items) || (nullable is_empty items && is_in same c (follows n))

-- the alternative that the next token picks
abbrev pub predict : Rule → Class → Option Items
predict n c = find (is_picked n c) (alternatives n)
