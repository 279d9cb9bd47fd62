-- Words that mean something, in any case, and the token at a place of a text.
use Rattle.std.specs.Prelude.{ℕ, ◌-◌, List, take, drop, Bool, true, false, ◌||◌, if◌then◌else◌, Option, Some, None, codes}
use Rattle.std.specs.Str.{str_eq_ignore_ascii_case}
use Rattle.sc_grammar.specs.declared.lexeme.Kind.{Kind}
use Rattle.sc_grammar.specs.declared.lexeme.Kind.TheVariants as kinds
use Rattle.sc_grammar.specs.declared.lexeme.Lexeme.{Lexeme}
use Rattle.sc_grammar.specs.declared.token.Class.{Class}
use Rattle.sc_grammar.specs.declared.token.Class.TheVariants as classes
use Rattle.sc_grammar.specs.declared.token.Token.{Token}
use Rattle.sc_grammar.specs.declared.words.Word.{Word}
use Rattle.sc_grammar.specs.declared.words.Word.TheVariants.{Fixed, Function, Geometry}
use Rattle.sc_grammar.specs.Lexing.{lexeme_at}

-- the letters of both in any case
abbrev pub is_word : List ℕ → List ℕ → Bool
is_word = str_eq_ignore_ascii_case

unfoldable pub keyword_of : List ℕ → Option Word
keyword_of word =
    if is_word word (codes "OR") then Some (Fixed classes.Or) else
    (if is_word word (codes "AND") then Some (Fixed classes.And) else
    (if is_word word (codes "NOT") then Some (Fixed classes.Not) else
    (if is_word word (codes "LIKE") then Some (Fixed classes.Like) else
    (if is_word word (codes "BETWEEN") then Some (Fixed classes.Between) else
    (if is_word word (codes "IN") then Some (Fixed classes.In) else
    (if is_word word (codes "IS") then Some (Fixed classes.Is) else
    (if is_word word (codes "NULL") then Some (Fixed classes.Null) else
    (if is_word word (codes "TRUE") then Some (Fixed classes.True) else
    (if is_word word (codes "FALSE") then Some (Fixed classes.False) else None)))))))))

unfoldable pub function_of : List ℕ → Option Word
function_of word =
    if is_word word (codes "CASEI") then Some (Function classes.Casei) else
    (if is_word word (codes "S_INTERSECTS") then Some (Function classes.SIntersects) else
    (if is_word word (codes "TIMESTAMP") then Some (Function classes.Timestamp) else
    (if is_word word (codes "DATE") then Some (Function classes.Date) else
    (if is_word word (codes "BBOX") then Some (Function classes.Bbox) else None))))

unfoldable pub geometry_of : List ℕ → Option Word
geometry_of word =
    if is_word word (codes "POINT") then Some (Geometry classes.Point) else
    (if is_word word (codes "LINESTRING") then Some (Geometry classes.LineString) else
    (if is_word word (codes "POLYGON") then Some (Geometry classes.Polygon) else
    (if is_word word (codes "MULTIPOINT") then Some (Geometry classes.MultiPoint) else
    (if is_word word (codes "MULTILINESTRING") then Some (Geometry classes.MultiLineString) else
    (if is_word word (codes "MULTIPOLYGON") then Some (Geometry classes.MultiPolygon) else
    (if is_word word (codes "GEOMETRYCOLLECTION") then Some (Geometry classes.GeometryCollection) else None))))))

unfoldable pub is_z : List ℕ → Bool
is_z word = is_word word (codes "Z")

abbrev pub or_else : Option Word → Word → Word
or_else (Some word) other = word
or_else None other = other

-- what a word may be, whatever comes behind it
unfoldable pub word_of : List ℕ → Word
word_of word =
    or_else (keyword_of word) (or_else (function_of word) (or_else (geometry_of word)
    (if is_z word then Fixed classes.Z else Fixed classes.Name)))

abbrev pub class_of : Kind → Class
class_of kinds.Word = classes.Name
class_of kinds.QuotedName = classes.QuotedName
class_of kinds.Text = classes.Text
class_of kinds.Number = classes.Number
class_of kinds.Equal = classes.Equal
class_of kinds.NotEqual = classes.NotEqual
class_of kinds.Less = classes.Less
class_of kinds.Greater = classes.Greater
class_of kinds.AtMost = classes.AtMost
class_of kinds.AtLeast = classes.AtLeast
class_of kinds.Opening = classes.Opening
class_of kinds.Closing = classes.Closing
class_of kinds.Comma = classes.Comma
class_of kinds.Bad = classes.Bad
class_of kinds.End = classes.End

abbrev pub kind_is_opening : Kind → Bool
kind_is_opening kinds.Opening = true
kind_is_opening _ = false

abbrev pub is_opening : Lexeme → Bool
is_opening l = kind_is_opening l.kind

-- the bytes from the one place up to the other
abbrev pub bytes_of : List ℕ → ℕ → ℕ → List ℕ
bytes_of text from to = take (to - from) (drop from text)

abbrev pub is_z_kind : Kind → List ℕ → Bool
is_z_kind kinds.Word bytes = is_z bytes
is_z_kind _ bytes = false

abbrev pub is_z_at : List ℕ → Lexeme → Bool
is_z_at text l = is_z_kind l.kind (bytes_of text l.from l.to)

-- the class of a word, by the token that comes next
abbrev pub class_by : List ℕ → Word → Lexeme → Class
class_by text (Fixed class) next = class
class_by text (Function class) next = if is_opening next then class else classes.Name
class_by text (Geometry class) next = if is_opening next || is_z_at text next then class else classes.Name

abbrev pub class_in : List ℕ → Bool → Word → ℕ → Class
class_in text is_whole word behind = class_by text word (lexeme_at text is_whole behind)

abbrev pub class_at : List ℕ → Bool → Kind → ℕ → ℕ → Class
class_at text is_whole kinds.Word from to = class_in text is_whole (word_of (bytes_of text from to)) to
class_at text is_whole kind from to = class_of kind

abbrev pub token_of : List ℕ → Bool → Lexeme → Token
token_of text is_whole l = record { class = class_at text is_whole l.kind l.from l.to; from = l.from; to = l.to }

-- the token at a place
unfoldable pub token_at : List ℕ → Bool → ℕ → Token
token_at text is_whole at = token_of text is_whole (lexeme_at text is_whole at)

-- a token, and neither a byte at which none can be formed nor the end
abbrev pub IsFormedClass : Class → Type 0
IsFormedClass classes.Bad = ⊥
IsFormedClass classes.End = ⊥
IsFormedClass _ = Unit {0}
