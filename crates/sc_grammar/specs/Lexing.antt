-- Tokens byte by byte: what of a token came last, which byte goes on with it, and where it is whole.
use Rattle.std.specs.Prelude.{ℕ, ◌+◌, List, [], ◌∷◌, length, drop, Bool, true, false, ◌&&◌, ◌||◌, not, ◌==◌, nat_le, if◌then◌else◌, Option, Some, None}
use Rattle.std.specs.Option.{option_map_or}
use Rattle.sc_grammar.specs.declared.lexeme.Kind.{Kind}
use Rattle.sc_grammar.specs.declared.lexeme.Kind.TheVariants as kinds
use Rattle.sc_grammar.specs.declared.lexeme.Lexeme.{Lexeme}
use Rattle.sc_grammar.specs.declared.lexing.Part.{Part}
use Rattle.sc_grammar.specs.declared.lexing.Part.TheVariants.{Start, Word, NameOpen, NameFirstQuote, NameInside, NameQuote, TextInside, TextBackslash, TextQuote, Signed, Whole, Point, Fraction, Mark, MarkSigned, Power, Sign}

-- a letter, `_`, or a byte of a character past ASCII
abbrev pub is_letter : ℕ → Bool
is_letter b = nat_le 128 b || (nat_le 65 b && nat_le b 90) || (nat_le 97 b && nat_le b 122) || (b == 95)

abbrev pub is_digit : ℕ → Bool
is_digit b = nat_le 48 b && nat_le b 57

abbrev pub is_blank : ℕ → Bool
is_blank b = (b == 32) || (b == 10) || (b == 13) || (b == 9)

abbrev pub sign_of : ℕ → Option Part
sign_of b =
    if b == 61 then Some (Sign kinds.Equal) else
    (if b == 60 then Some (Sign kinds.Less) else
    (if b == 62 then Some (Sign kinds.Greater) else
    (if b == 40 then Some (Sign kinds.Opening) else
    (if b == 41 then Some (Sign kinds.Closing) else
    (if b == 44 then Some (Sign kinds.Comma) else None)))))

abbrev pub start_of : ℕ → Option Part
start_of b =
    if is_letter b then Some Word else
    (if is_digit b then Some Whole else
    (if b == 34 then Some NameOpen else
    (if b == 39 then Some TextInside else
    (if b == 43 then Some Signed else
    (if b == 45 then Some Signed else
    (if b == 46 then Some Point else sign_of b))))))

abbrev pub word_on : ℕ → Option Part
word_on b = if is_letter b || is_digit b || (b == 58) || (b == 46) then Some Word else None

abbrev pub digit_on : Part → ℕ → Option Part
digit_on p b = if is_digit b then Some p else None

abbrev pub mark_on : Part → ℕ → Option Part
mark_on p b = if (b == 101) || (b == 69) then Some Mark else digit_on p b

abbrev pub number_on : Part → ℕ → Option Part
number_on Signed b = if b == 46 then Some Point else digit_on Whole b
number_on Whole b = if b == 46 then Some Point else mark_on Whole b
number_on Point b = digit_on Fraction b
number_on Fraction b = mark_on Fraction b
number_on Mark b = if (b == 43) || (b == 45) then Some MarkSigned else digit_on Power b
number_on _ b = digit_on Power b

abbrev pub name_on : Bool → ℕ → Option Part
name_on is_first b = if not (b == 34) then Some NameInside else (if is_first then Some NameFirstQuote else Some NameQuote)

abbrev pub text_on : ℕ → Option Part
text_on b = if b == 39 then Some TextQuote else (if b == 92 then Some TextBackslash else Some TextInside)

abbrev pub backslash_on : ℕ → Option Part
backslash_on b = if b == 92 then Some TextBackslash else Some TextInside

abbrev pub quoted_on : Part → ℕ → ℕ → Option Part
quoted_on p quote b = if b == quote then Some p else None

abbrev pub sign_on : Kind → ℕ → Option Part
sign_on kinds.Less b = if b == 61 then Some (Sign kinds.AtMost) else (if b == 62 then Some (Sign kinds.NotEqual) else None)
sign_on kinds.Greater b = if b == 61 then Some (Sign kinds.AtLeast) else None
sign_on _ b = None

abbrev pub part_on : Part → ℕ → Option Part
part_on Start b = start_of b
part_on Word b = word_on b
part_on NameOpen b = name_on true b
part_on NameFirstQuote b = quoted_on NameInside 34 b
part_on NameInside b = name_on false b
part_on NameQuote b = quoted_on NameInside 34 b
part_on TextInside b = text_on b
part_on TextBackslash b = backslash_on b
part_on TextQuote b = quoted_on TextInside 39 b
part_on (Sign kind) b = sign_on kind b
part_on Signed b = number_on Signed b
part_on Whole b = number_on Whole b
part_on Point b = number_on Point b
part_on Fraction b = number_on Fraction b
part_on Mark b = number_on Mark b
part_on MarkSigned b = number_on MarkSigned b
part_on Power b = number_on Power b

abbrev pub kind_of : Part → Option Kind
kind_of Word = Some kinds.Word
kind_of NameQuote = Some kinds.QuotedName
kind_of TextQuote = Some kinds.Text
kind_of Whole = Some kinds.Number
kind_of Fraction = Some kinds.Number
kind_of Power = Some kinds.Number
kind_of (Sign kind) = Some kind
kind_of _ = None

abbrev pub Found : Type 0
Found = Option (Kind × ℕ)

abbrev pub as_best : Option Kind → ℕ → Found → Found
as_best (Some kind) n best = Some (kind, n)
as_best None n best = best

abbrev pub better : Part → ℕ → Found → Found
better p n best = as_best (kind_of p) n best

-- the longest token, where `n` bytes are gone and `best` is the longest up to there
unfoldable pub longest_from : List ℕ → Part → ℕ → Found → Found
longest_from [] p n best = best
longest_from (b ∷ bs) p n best = option_map_or (λ q. longest_from bs q (n + 1) (better q (n + 1) best)) (part_on p b) best

unfoldable pub longest : List ℕ → Found
longest bytes = longest_from bytes Start 0 None

unfoldable pub blank_len : List ℕ → ℕ
blank_len [] = 0
blank_len (b ∷ bs) = if is_blank b then blank_len bs + 1 else 0

abbrev pub found_at : ℕ → Found → Lexeme
found_at n None = record { kind = kinds.Bad; from = n; to = n }
found_at n (Some (k, m)) = record { kind = k; from = n; to = n + m }

abbrev pub lexeme_from : List ℕ → Bool → ℕ → Lexeme
lexeme_from text is_whole n = if n == length text then record { kind = if is_whole then kinds.End else kinds.Bad; from = n; to = n } else found_at n (longest (drop n text))

unfoldable pub lexeme_at : List ℕ → Bool → ℕ → Lexeme
lexeme_at text is_whole at = lexeme_from text is_whole (at + blank_len (drop at text))
