-- What the header lines of a request say: the length of its body (RFC 9112, sections 6.2 and 6.3), and whether the
-- connection ends behind it (RFC 9112, section 9.3; lists by RFC 9110, section 5.6.1).
use Rattle.std.specs.Prelude.{ℕ, Bool, ◌&&◌, ◌||◌, ◌==◌, nat_lt, nat_le, List, [], ◌∷◌, map, length, codes, bytes_eq, Result, Ok, Err, if◌then◌else◌}
use Rattle.std.specs.Char.{is_ascii_digit, to_ascii_lowercase}
use Rattle.std.specs.List.{list_all, list_any}
use Rattle.std.specs.Str.Parse.{digits_value}
use Rattle.httparse.specs.Grammar.{Field, field_value, trim_ows}
use Rattle.sc_base.specs.Parts.{parts_between}
use Rattle.sc_http.specs.declared.request.Header.{Header}
use Rattle.sc_http.specs.declared.fault.LengthFault.{LengthFault}
use Rattle.sc_http.specs.declared.fault.LengthFault.TheVariants.{Coded, Unreadable, TooLong}

-- the header of a field line: its name, and its value without the white space around it
abbrev pub header_of : Field → Header
header_of f = record { name = f.name; value = field_value f }

-- the same but for the case of ASCII letters
abbrev pub same_name : List ℕ → List ℕ → Bool
same_name a b = bytes_eq (map to_ascii_lowercase a) (map to_ascii_lowercase b)

-- the values of the headers of that name, in their order
abbrev pub values_of : List ℕ → List Header → List (List ℕ)
values_of name [] = []
values_of name (h ∷ headers) = if same_name h.name name then h.value ∷ values_of name headers else values_of name headers

unfoldable pub coding_name : List ℕ
coding_name = codes "transfer-encoding"

unfoldable pub length_name : List ℕ
length_name = codes "content-length"

unfoldable pub connection_name : List ℕ
connection_name = codes "connection"

unfoldable pub close_name : List ℕ
close_name = codes "close"

-- one or more digits
abbrev pub is_digits : List ℕ → Bool
is_digits bytes = nat_lt 0 (length bytes) && list_all is_ascii_digit bytes

-- the number that digits write, at most 2^24
abbrev pub stated_length : List ℕ → Result ℕ LengthFault
stated_length value =
    if is_digits value then (if nat_le (digits_value 10 value) 16777216 then Ok (digits_value 10 value) else Err TooLong)
    else Err Unreadable

-- without a length it is 0, and one length is its number
abbrev pub one_length : List (List ℕ) → Result ℕ LengthFault
one_length [] = Ok 0
one_length (value ∷ []) = stated_length value
one_length (value ∷ (other ∷ values)) = Err Unreadable

-- by the codings and the lengths that are stated: no coding is taken
abbrev pub framed_length : List (List ℕ) → List (List ℕ) → Result ℕ LengthFault
framed_length [] lengths = one_length lengths
framed_length (coding ∷ codings) lengths = Err Coded

-- the length of the body, or the first fault that holds
abbrev pub length_of : List Header → Result ℕ LengthFault
length_of headers = framed_length (values_of coding_name headers) (values_of length_name headers)

-- the member of a list is `close`, in any case
abbrev pub is_close : List ℕ → Bool
is_close member = same_name (trim_ows member) close_name

-- the value has that member between its commas
abbrev pub says_close : List ℕ → Bool
says_close value = list_any is_close (parts_between 44 value)

-- the connection ends behind a request of HTTP/1.0, and behind one with a line `Connection` that says so
abbrev pub closes : ℕ → List Header → Bool
closes minor headers = minor == 0 || list_any says_close (values_of connection_name headers)
