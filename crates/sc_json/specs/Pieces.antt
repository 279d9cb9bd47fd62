-- A text in quotes, a byte at a time (RFC 8259 §7).
use Rattle.std.specs.Prelude.{ℕ, Bool, not, ◌+◌, ◌-◌, ◌*◌, ◌&&◌, ◌==◌, nat_le, nat_lt, if◌then◌else◌, Option, Some, None}
use Rattle.std.specs.Option.{option_map_or}
use Rattle.sc_json.specs.Hex.{hex_of}
use Rattle.sc_json.specs.declared.state.Piece.{Piece}
use Rattle.sc_json.specs.declared.state.Piece.TheVariants.{Plain, Slash, Unit as Units, Unit1, Unit2, Unit3, Pair, PairSlash, Low, Low1, Low2, Low3}
use Rattle.sc_json.specs.declared.quoted.Grown.{Grown}
use Rattle.sc_json.specs.declared.quoted.Added.TheVariants.{Nothing, Byte, Scalar}

-- a byte that stands for itself
abbrev pub is_plain_byte : ℕ → Bool
is_plain_byte b = nat_le 32 b && not (b == 34) && not (b == 92)

abbrev pub onward : Piece → Option Grown
onward p = Some (record { piece = p; added = Nothing })

abbrev pub added : ℕ → Option Grown
added b = Some (record { piece = Plain; added = Byte b })

-- behind a backslash
abbrev pub slash_of : ℕ → Option Grown
slash_of b =
    if b == 34 then added 34 else
    (if b == 92 then added 92 else
    (if b == 47 then added 47 else
    (if b == 98 then added 8 else
    (if b == 102 then added 12 else
    (if b == 110 then added 10 else
    (if b == 114 then added 13 else
    (if b == 116 then added 9 else
    (if b == 117 then onward Units else None))))))))

-- the four digits of an escape: a high half waits for a low one
abbrev pub unit_of : ℕ → Option Grown
unit_of code =
    if nat_le 65536 code then None else
    (if nat_le 55296 code && nat_lt code 56320 then onward (Pair code) else Some (record { piece = Plain; added = Scalar code }))

-- both halves
abbrev pub low_of : ℕ → ℕ → Option Grown
low_of high low =
    if nat_lt high 55296 then None else
    (if nat_lt low 3072 then None else
    (if nat_le 1114112 (65536 + (high - 55296) * 1024 + (low - 3072)) then None else
    Some (record { piece = Plain; added = Scalar (65536 + (high - 55296) * 1024 + (low - 3072)) })))

abbrev pub digit_in : Piece → ℕ → Option Grown
digit_in Units d = onward (Unit1 d)
digit_in (Unit1 first) d = if first == 13 && nat_le 12 d then None else onward (Unit2 (first * 16 + d))
digit_in (Unit2 two) d = onward (Unit3 (two * 16 + d))
digit_in (Unit3 three) d = unit_of (three * 16 + d)
digit_in (Low high) d = if d == 13 then onward (Low1 high) else None
digit_in (Low1 high) d = if nat_le 12 d then onward (Low2 high d) else None
digit_in (Low2 high low) d = onward (Low3 high (low * 16 + d))
digit_in (Low3 high low) d = low_of high (low * 16 + d)
digit_in _ d = None

abbrev pub piece_of : Piece → ℕ → Option Grown
piece_of Plain b = if b == 92 then onward Slash else (if nat_lt b 32 then None else added b)
piece_of Slash b = slash_of b
piece_of (Pair high) b = if b == 92 then onward (PairSlash high) else None
piece_of (PairSlash high) b = if b == 117 then onward (Low high) else None
piece_of p b = option_map_or (digit_in p) (hex_of b) None
