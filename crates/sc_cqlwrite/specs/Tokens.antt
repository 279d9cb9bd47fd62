-- What the text of a filter is made of (OGC 21-065r2, Annex B): its tokens, how each is written, and where blanks stand
-- between them.
use Rattle.std.specs.Prelude.{ℕ, List, [], ◌∷◌, ◌++◌, Bool, true, false, ◌||◌, not, ◌==◌, if◌then◌else◌, codes}
use Rattle.std.specs.List.{flat_map}
use Rattle.sc_expr.specs.declared.expr.CompOp.{CompOp}
use Rattle.sc_expr.specs.declared.expr.CompOp.TheVariants.{Eq, Ne, Lt, Gt, Le, Ge}

-- a keyword, a function word, a name and a text by what stands in their quotes, a number by its literal, a comparison,
-- and what stands round and between the members of a list
pub data Token : Type 0 where
  word : List ℕ → Token
  function : List ℕ → Token
  name : List ℕ → Token
  text : List ℕ → Token
  number : List ℕ → Token
  sign : CompOp → Token
  opening : Token
  closing : Token
  comma : Token

-- ---- a token

-- a quote stands behind a mark, and all else as it is
abbrev pub marked : ℕ → ℕ → ℕ → List ℕ
marked mark quote b = if b == quote then mark ∷ quote ∷ [] else b ∷ []

abbrev pub is_other : ℕ → ℕ → Bool
is_other quote b = not (b == quote)

-- in quotes
abbrev pub quoted : ℕ → ℕ → List ℕ → List ℕ
quoted mark quote inside = quote ∷ (flat_map (marked mark quote) inside ++ quote ∷ [])

abbrev pub sign_of : CompOp → List ℕ
sign_of Eq = codes "="
sign_of Ne = codes "<>"
sign_of Lt = codes "<"
sign_of Gt = codes ">"
sign_of Le = codes "<="
sign_of Ge = codes ">="

-- a quote is doubled in a name, and stands behind a backslash in a text
unfoldable pub spelled : Token → List ℕ
spelled (word w) = w
spelled (function w) = w
spelled (name n) = quoted 34 34 n
spelled (text t) = quoted 92 39 t
spelled (number n) = n
spelled (sign op) = sign_of op
spelled opening = 40 ∷ []
spelled closing = 41 ∷ []
spelled comma = 44 ∷ []

-- ---- blanks: none behind a function word and `(`, and none before `)` and `,`

abbrev pub holds_next : Token → Bool
holds_next (word w) = false
holds_next (function w) = true
holds_next (name n) = false
holds_next (text t) = false
holds_next (number n) = false
holds_next (sign op) = false
holds_next opening = true
holds_next closing = false
holds_next comma = false

abbrev pub is_held : Token → Bool
is_held (word w) = false
is_held (function w) = false
is_held (name n) = false
is_held (text t) = false
is_held (number n) = false
is_held (sign op) = false
is_held opening = false
is_held closing = true
is_held comma = true

abbrev pub blank_unless : Bool → List ℕ
blank_unless true = []
blank_unless false = 32 ∷ []

-- ---- the text of tokens

-- what stands behind a token
unfoldable pub behind : Token → List Token → List ℕ
behind t [] = []
behind t (u ∷ us) = blank_unless (holds_next t || is_held u) ++ spelled u ++ behind u us

unfoldable pub text_of : List Token → List ℕ
text_of [] = []
text_of (t ∷ ts) = spelled t ++ behind t ts

-- ---- tokens of parts

-- the token before each of the parts
abbrev pub before_each : Token → List (List Token) → List Token
before_each t = flat_map (λ part. t ∷ part)

-- the token between each two of the parts
abbrev pub between : Token → List (List Token) → List Token
between t [] = []
between t (part ∷ parts) = part ++ before_each t parts

-- in parentheses
abbrev pub enclosed : List Token → List Token
enclosed inside = opening ∷ (inside ++ closing ∷ [])

-- a list in parentheses
abbrev pub listed : List (List Token) → List Token
listed parts = enclosed (between comma parts)
