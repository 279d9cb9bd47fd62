-- What each token is made of (OGC 21-065r2, Annex B), and which one comes next: the longest that can be formed.
--
-- The texts are UTF-8, and the bytes of a character past ASCII are 128 and more: so a token is told by its bytes.
use Rattle.std.specs.Prelude.{◌≡◌, ◌≢◌, ℕ, ◌+◌, ◌<◌, ◌≤◌, List, [], ◌∷◌, ◌++◌, length, take, drop, Bool, true, false, ◌||◌, ◌==◌, Option, Some, None, ◌⊎◌}
use Rattle.sc_decimal.specs.Value.{is_number}
use Rattle.sc_grammar.specs.declared.lexeme.Kind.{Kind}
use Rattle.sc_grammar.specs.declared.lexeme.Kind.TheVariants as kinds
use Rattle.sc_grammar.specs.declared.lexeme.Lexeme.{Lexeme}
use Rattle.sc_grammar.specs.Lexing.{is_letter, is_digit, is_blank}

abbrev pub goes_on : ℕ → Bool
goes_on b = is_letter b || is_digit b || (b == 58) || (b == 46)

-- letters, digits, `:` and `.`
abbrev pub AreLetters : List ℕ → Type 0
AreLetters [] = Unit {0}
AreLetters (b ∷ bs) = (goes_on b ≡ true) × AreLetters bs

-- a letter, `_` or a character past ASCII, and then any of these
abbrev pub IsWord : List ℕ → Type 0
IsWord [] = ⊥
IsWord (b ∷ bs) = (is_letter b ≡ true) × AreLetters bs

-- the inside of a name: characters, with `""` for a quote
pub data NameInside : List ℕ → Type 0 where
  no_more : NameInside []
  plain : (b : ℕ) (bs : List ℕ) → b ≢ 34 → NameInside bs → NameInside (b ∷ bs)
  quote : (bs : List ℕ) → NameInside bs → NameInside (34 ∷ 34 ∷ bs)

-- the inside of a text: `''` or `\'` is one quote, and any other backslash is itself
pub data TextInside : List ℕ → Type 0 where
  text_ends : TextInside []
  character : (b : ℕ) (bs : List ℕ) → b ≢ 39 → b ≢ 92 → TextInside bs → TextInside (b ∷ bs)
  doubled : (bs : List ℕ) → TextInside bs → TextInside (39 ∷ 39 ∷ bs)
  escaped : (bs : List ℕ) → TextInside bs → TextInside (92 ∷ 39 ∷ bs)
  backslash : (b : ℕ) (bs : List ℕ) → b ≢ 39 → TextInside (b ∷ bs) → TextInside (92 ∷ b ∷ bs)

pub record IsQuotedName (bytes : List ℕ) : Type 0 where
  pub inside : List ℕ
  pub characters : NameInside inside
  pub some : inside ≢ []
  pub quoted : bytes ≡ 34 ∷ (inside ++ 34 ∷ [])

pub record IsText (bytes : List ℕ) : Type 0 where
  pub inside : List ℕ
  pub characters : TextInside inside
  pub quoted : bytes ≡ 39 ∷ (inside ++ 39 ∷ [])

-- the bytes are a token of the kind
abbrev pub IsToken : Kind → List ℕ → Type 0
IsToken kinds.Word bytes = IsWord bytes
IsToken kinds.QuotedName bytes = IsQuotedName bytes
IsToken kinds.Text bytes = IsText bytes
IsToken kinds.Number bytes = is_number bytes ≡ true
IsToken kinds.Equal bytes = bytes ≡ 61 ∷ []
IsToken kinds.NotEqual bytes = bytes ≡ 60 ∷ 62 ∷ []
IsToken kinds.Less bytes = bytes ≡ 60 ∷ []
IsToken kinds.Greater bytes = bytes ≡ 62 ∷ []
IsToken kinds.AtMost bytes = bytes ≡ 60 ∷ 61 ∷ []
IsToken kinds.AtLeast bytes = bytes ≡ 62 ∷ 61 ∷ []
IsToken kinds.Opening bytes = bytes ≡ 40 ∷ []
IsToken kinds.Closing bytes = bytes ≡ 41 ∷ []
IsToken kinds.Comma bytes = bytes ≡ 44 ∷ []
IsToken kinds.Bad bytes = ⊥
IsToken kinds.End bytes = ⊥

-- no token of more than so many bytes, and at most all, is at the front
abbrev pub NoneAbove : ℕ → List ℕ → Type 0
NoneAbove n bytes = (m : ℕ) (kind : Kind) → n < m → m ≤ length bytes → IsToken kind (take m bytes) → ⊥

-- the longest token at the front, or none
abbrev pub IsLongest : List ℕ → Option (Kind × ℕ) → Type 0
IsLongest bytes (Some (kind, n)) = (n ≤ length bytes) × IsToken kind (take n bytes) × NoneAbove n bytes
IsLongest bytes None = NoneAbove 0 bytes

-- white space alone
abbrev pub AreBlank : List ℕ → Type 0
AreBlank [] = Unit {0}
AreBlank (b ∷ bs) = (is_blank b ≡ true) × AreBlank bs

abbrev pub BeginsBlank : List ℕ → Type 0
BeginsBlank [] = ⊥
BeginsBlank (b ∷ bs) = is_blank b ≡ true

-- what stands at the token's place: the end of the text, a byte at which no token can be formed or behind which the text
-- is cut, or the longest token
abbrev pub IsKind : List ℕ → Bool → Kind → ℕ → ℕ → Type 0
IsKind text is_whole kinds.End from to = (from ≡ length text) × (is_whole ≡ true) × (to ≡ from)
IsKind text is_whole kinds.Bad from to = ((from ≡ length text) × (is_whole ≡ false) ⊎ (from < length text) × NoneAbove 0 (drop from text)) × (to ≡ from)
IsKind text is_whole kind from to = (n : ℕ) × (to ≡ from + n) × IsLongest (drop from text) (Some (kind, n))

-- the token behind the white space at a place
pub record IsNext (text : List ℕ) (is_whole : Bool) (at : ℕ) (l : Lexeme) : Type 0 where
  pub blanks : ℕ
  pub from_is : l.from ≡ at + blanks
  pub are_blank : AreBlank (take blanks (drop at text))
  pub no_more : BeginsBlank (drop l.from text) → ⊥
  pub is_kind : IsKind text is_whole l.kind l.from l.to

-- a token, and neither a byte at which none can be formed nor the end
abbrev pub IsFormed : Kind → Type 0
IsFormed kinds.Bad = ⊥
IsFormed kinds.End = ⊥
IsFormed _ = Unit {0}
