-- What the tokens of a filter are: names, texts, numbers and times (OGC 21-065r2, Annex B).
use Rattle.std.specs.Prelude.{ℕ, ◌-◌, List, [], ◌∷◌, length, take, drop, Bool, false, ◌&&◌, ◌||◌, ◌==◌, not, if◌then◌else◌, Option, Some, None, Result, Ok, Err, ℤ}
use Rattle.sc_base.specs.Text as texts
use Rattle.sc_decimal.specs.Number.{Number}
use Rattle.sc_decimal.specs.Value.{is_number, is_wide, number_of}
use Rattle.sc_time.specs.Reading.{instant_reading, date_reading}
use Rattle.sc_grammar.specs.declared.token.Class.{Class}
use Rattle.sc_grammar.specs.declared.token.Class.TheVariants as classes
use Rattle.sc_grammar.specs.declared.token.Token.{Token}
use Rattle.sc_grammar.specs.Words as words

abbrev pub bytes_of : List ℕ → Token → List ℕ
bytes_of text token = words.bytes_of text token.from token.to

-- what stands within quotes
abbrev pub within : List ℕ → List ℕ
within bytes = take (length bytes - 2) (drop 1 bytes)

-- whether a quote stands second, behind a quote or the mark
abbrev pub is_pair : ℕ → ℕ → List ℕ → Bool
is_pair quote mark [] = false
is_pair quote mark (first ∷ []) = false
is_pair quote mark (first ∷ second ∷ bytes) = ((first == quote) || (first == mark)) && (second == quote)

-- each pair is one quote, and every other byte is itself
unfoldable pub unescaped : ℕ → ℕ → List ℕ → List ℕ
unescaped quote mark [] = []
unescaped quote mark (first ∷ []) = first ∷ []
unescaped quote mark (first ∷ second ∷ bytes) =
    if is_pair quote mark (first ∷ second ∷ bytes) then quote ∷ unescaped quote mark bytes
    else first ∷ unescaped quote mark (second ∷ bytes)

-- ---- texts: `''` and `\'` are one quote, and any other backslash is itself

abbrev pub text_bytes : List ℕ → List ℕ
text_bytes bytes = unescaped 39 92 (within bytes)

abbrev pub text_of : List ℕ → Option (List ℕ)
text_of bytes = texts.text_of (text_bytes bytes)

-- ---- names: a word is itself, and in a quoted name `""` is one quote

abbrev pub name_bytes : Class → List ℕ → List ℕ
name_bytes classes.QuotedName bytes = unescaped 34 34 (within bytes)
name_bytes _ bytes = bytes

abbrev pub if_filled : Option (List ℕ) → Option (List ℕ)
if_filled None = None
if_filled (Some []) = None
if_filled (Some (b ∷ bytes)) = Some (b ∷ bytes)

-- a name is a text that isn't empty
abbrev pub name_of : Class → List ℕ → Option (List ℕ)
name_of class bytes = if_filled (texts.text_of (name_bytes class bytes))

-- ---- numbers and times

-- the number, where it isn't too wide
abbrev pub dec_of : List ℕ → Option Number
dec_of bytes = if is_number bytes && not (is_wide bytes) then Some (number_of bytes) else None

abbrev pub if_read : {A E : Type 0} → Result A E → Option A
if_read (Ok value) = Some value
if_read (Err fault) = None

abbrev pub instant_of : List ℕ → Option ℤ
instant_of bytes = if_read (instant_reading (text_bytes bytes))

-- the midnight at which the day begins
abbrev pub day_of : List ℕ → Option ℤ
day_of bytes = if_read (date_reading (text_bytes bytes))
