-- What it is for a text to be read as tokens: their classes and bytes in order, and then the end of the text.
use Rattle.std.specs.Prelude.{◌≡◌, ℕ, List, [], ◌∷◌, true}
use Rattle.sc_grammar.specs.declared.token.Class.{Class}
use Rattle.sc_grammar.specs.declared.token.Class.TheVariants as classes
use Rattle.sc_grammar.specs.declared.lexeme.Kind.TheVariants as kinds
use Rattle.sc_grammar.specs.Words.{word_of, class_by, bytes_of, token_at}
use Rattle.sc_expr.specs.declared.expr.CompOp.{CompOp}
use Rattle.sc_expr.specs.declared.expr.CompOp.TheVariants.{Eq, Ne, Lt, Gt, Le, Ge}
use Rattle.sc_cqlwrite.specs.Tokens as tokens
use Rattle.sc_cqlwrite.specs.Tokens.{Token, spelled}

-- ---- what a token is to the grammar

-- a word before an opening parenthesis
abbrev pub class_named : List ℕ → Class
class_named word = class_by [] (word_of word) (record { kind = kinds.Opening; from = 0; to = 0 })

abbrev pub class_compared : CompOp → Class
class_compared Eq = classes.Equal
class_compared Ne = classes.NotEqual
class_compared Lt = classes.Less
class_compared Gt = classes.Greater
class_compared Le = classes.AtMost
class_compared Ge = classes.AtLeast

abbrev pub class_of : Token → Class
class_of (tokens.word w) = class_named w
class_of (tokens.function w) = class_named w
class_of (tokens.name n) = classes.QuotedName
class_of (tokens.text t) = classes.Text
class_of (tokens.number n) = classes.Number
class_of (tokens.sign op) = class_compared op
class_of tokens.opening = classes.Opening
class_of tokens.closing = classes.Closing
class_of tokens.comma = classes.Comma

-- ---- from a place on these tokens stand in the text, and nothing behind them

unfoldable pub AreRead : List ℕ → ℕ → List Token → Type 0
AreRead text at [] = (token_at text true at).class ≡ classes.End
AreRead text at (t ∷ ts) =
    ((token_at text true at).class ≡ class_of t) × (bytes_of text (token_at text true at).from (token_at text true at).to ≡ spelled t) × AreRead text (token_at text true at).to ts
