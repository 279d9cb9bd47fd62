-- A token of a text in UTF-8 is the name, the text or the number that its class says: so of literals only numbers that are
-- too wide, and texts of TIMESTAMP and DATE that are no instant and no date, can't be read.
use Rattle.std.specs.Prelude.{◌≡◌, ℕ, List, drop, true, is_some, IsUtf8}
use Rattle.sc_decimal.specs.Value.{is_number}
use Rattle.sc_grammar.specs.declared.token.Class.{Class}
use Rattle.sc_grammar.specs.declared.token.Class.TheVariants as classes
use Rattle.sc_grammar.specs.declared.token.Token.{Token}
use Rattle.sc_cqlvalue.specs.Literals.{bytes_of, text_of, name_of}

abbrev pub IsReadable : Class → List ℕ → Type 0
IsReadable classes.Name bytes = is_some (name_of classes.Name bytes) ≡ true
IsReadable classes.Z bytes = is_some (name_of classes.Z bytes) ≡ true
IsReadable classes.QuotedName bytes = is_some (name_of classes.QuotedName bytes) ≡ true
IsReadable classes.Text bytes = is_some (text_of bytes) ≡ true
IsReadable classes.Number bytes = is_number bytes ≡ true
IsReadable _ bytes = Unit {0}

-- the token is readable, and what stands behind it is UTF-8 again
pub record ReadsOn (text : List ℕ) (token : Token) : Type 0 where
  pub readable : IsReadable token.class (bytes_of text token)
  pub rest : IsUtf8 (drop token.to text)
