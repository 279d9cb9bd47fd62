-- Lists of tokens that are whole, and in which a parenthesis follows each function word.
use Rattle.std.proofs.Common.{◌≡◌, ℕ, List, [], ◌∷◌, ◌++◌, Bool, true, false, refl}
use Rattle.std.specs.List.{AllByRecursion}
use Rattle.std.proofs.lemmas.Bool.{false≢true}
use Rattle.sc_grammar.specs.declared.lexeme.Kind.{Kind}
use Rattle.sc_grammar.specs.declared.lexeme.Kind.TheVariants as kinds
use Rattle.sc_grammar.specs.declared.lexeme.Lexeme.{Lexeme}
use Rattle.sc_grammar.specs.Words.{word_of, class_by}
use Rattle.sc_grammar.specs.Words as words
use Rattle.sc_grammar.specs.Tokens.{IsToken}
use Rattle.sc_expr.specs.declared.expr.CompOp.{CompOp}
use Rattle.sc_expr.specs.declared.expr.CompOp.TheVariants.{Eq, Ne, Lt, Gt, Le, Ge}
use Rattle.sc_cqlwrite.specs.Tokens as tokens
use Rattle.sc_cqlwrite.specs.Tokens.{Token, spelled, before_each, between, enclosed, listed}
use Rattle.sc_cqlback.specs.Read.{class_named}

abbrev pub kind_compared : CompOp → Kind
kind_compared Eq = kinds.Equal
kind_compared Ne = kinds.NotEqual
kind_compared Lt = kinds.Less
kind_compared Gt = kinds.Greater
kind_compared Le = kinds.AtMost
kind_compared Ge = kinds.AtLeast

abbrev pub kind_of : Token → Kind
kind_of (tokens.word w) = kinds.Word
kind_of (tokens.function w) = kinds.Word
kind_of (tokens.name n) = kinds.QuotedName
kind_of (tokens.text t) = kinds.Text
kind_of (tokens.number n) = kinds.Number
kind_of (tokens.sign op) = kind_compared op
kind_of tokens.opening = kinds.Opening
kind_of tokens.closing = kinds.Closing
kind_of tokens.comma = kinds.Comma

-- a word means the same whatever stands behind it, and a function word what it does before a parenthesis
abbrev pub IsFixed : List ℕ → Type 0
IsFixed word = (text : List ℕ) (next : Lexeme) → class_by text (word_of word) next ≡ class_named word

abbrev pub IsCalled : List ℕ → Type 0
IsCalled word = (text : List ℕ) (next : Lexeme) → words.is_opening next ≡ true → class_by text (word_of word) next ≡ class_named word

abbrev pub IsMeant : Token → Type 0
IsMeant (tokens.word w) = IsFixed w
IsMeant (tokens.function w) = IsCalled w
IsMeant (tokens.name n) = Unit {0}
IsMeant (tokens.text t) = Unit {0}
IsMeant (tokens.number n) = Unit {0}
IsMeant (tokens.sign op) = Unit {0}
IsMeant tokens.opening = Unit {0}
IsMeant tokens.closing = Unit {0}
IsMeant tokens.comma = Unit {0}

abbrev pub is_opening : Token → Bool
is_opening (tokens.word w) = false
is_opening (tokens.function w) = false
is_opening (tokens.name n) = false
is_opening (tokens.text t) = false
is_opening (tokens.number n) = false
is_opening (tokens.sign op) = false
is_opening tokens.opening = true
is_opening tokens.closing = false
is_opening tokens.comma = false

abbrev pub is_function : Token → Bool
is_function (tokens.word w) = false
is_function (tokens.function w) = true
is_function (tokens.name n) = false
is_function (tokens.text t) = false
is_function (tokens.number n) = false
is_function (tokens.sign op) = false
is_function tokens.opening = false
is_function tokens.closing = false
is_function tokens.comma = false

abbrev pub begins_opening : List Token → Bool
begins_opening [] = false
begins_opening (t ∷ ts) = is_opening t

abbrev pub IsFollowed : Token → List Token → Type 0
IsFollowed (tokens.word w) ts = Unit {0}
IsFollowed (tokens.function w) ts = begins_opening ts ≡ true
IsFollowed (tokens.name n) ts = Unit {0}
IsFollowed (tokens.text t) ts = Unit {0}
IsFollowed (tokens.number n) ts = Unit {0}
IsFollowed (tokens.sign op) ts = Unit {0}
IsFollowed tokens.opening ts = Unit {0}
IsFollowed tokens.closing ts = Unit {0}
IsFollowed tokens.comma ts = Unit {0}

pub record IsWhole (t : Token) : Type 0 where
  pub whole : IsToken (kind_of t) (spelled t)
  pub meant : IsMeant t

abbrev pub IsLexical : List Token → Type 0
IsLexical [] = Unit {0}
IsLexical (t ∷ ts) = IsWhole t × IsFollowed t ts × IsLexical ts

-- ---- lists one behind the other

begins_append : (ts us : List Token) → begins_opening ts ≡ true → begins_opening (ts ++ us) ≡ true
begins_append [] us h = absurd (false≢true h)
begins_append (t ∷ ts) us h = h

followed_append : (t : Token) (ts us : List Token) → IsFollowed t ts → IsFollowed t (ts ++ us)
followed_append (tokens.word w) ts us h = tt
followed_append (tokens.function w) ts us h = begins_append ts us h
followed_append (tokens.name n) ts us h = tt
followed_append (tokens.text t) ts us h = tt
followed_append (tokens.number n) ts us h = tt
followed_append (tokens.sign op) ts us h = tt
followed_append tokens.opening ts us h = tt
followed_append tokens.closing ts us h = tt
followed_append tokens.comma ts us h = tt

pub lexical_append : (ts us : List Token) → IsLexical ts → IsLexical us → IsLexical (ts ++ us)
lexical_append [] us h k = k
lexical_append (t ∷ ts) us h k = (h.0, followed_append t ts us h.1, lexical_append ts us h.2 k)

pub lexical_before : (t : Token) → IsLexical (t ∷ []) → (parts : List (List Token)) → AllByRecursion IsLexical parts → IsLexical (before_each t parts)
lexical_before t h [] all = tt
lexical_before t h (part ∷ parts) all =
    lexical_append (t ∷ part) (before_each t parts) (lexical_append (t ∷ []) part h all.0) (lexical_before t h parts all.1)

pub lexical_between : (t : Token) → IsLexical (t ∷ []) → (parts : List (List Token)) → AllByRecursion IsLexical parts → IsLexical (between t parts)
lexical_between t h [] all = tt
lexical_between t h (part ∷ parts) all = lexical_append part (before_each t parts) all.0 (lexical_before t h parts all.1)

-- ---- parentheses

opening_whole : IsWhole tokens.opening
opening_whole = record { whole = unfold spelled in refl; meant = tt }

closing_whole : IsWhole tokens.closing
closing_whole = record { whole = unfold spelled in refl; meant = tt }

comma_whole : IsWhole tokens.comma
comma_whole = record { whole = unfold spelled in refl; meant = tt }

pub lexical_comma : IsLexical (tokens.comma ∷ [])
lexical_comma = (comma_whole, tt, tt)

pub lexical_enclosed : (inside : List Token) → IsLexical inside → IsLexical (enclosed inside)
lexical_enclosed inside h = (opening_whole, tt, lexical_append inside (tokens.closing ∷ []) h (closing_whole, tt, tt))

pub lexical_call : (word : List ℕ) (inside : List Token) → IsWhole (tokens.function word) → IsLexical inside → IsLexical (tokens.function word ∷ enclosed inside)
lexical_call word inside whole h = (whole, refl, lexical_enclosed inside h)
