-- The revision of the catalogue that a request says was seen: the header `Catalogue-Seen`.
use Rattle.std.specs.Prelude.{◌≡◌, ℕ, ◌^◌, Bool, ◌&&◌, nat_lt, List, [], ◌∷◌, codes, Option, Some, None, if◌then◌else◌}
use Rattle.std.specs.Option.{option_map}
use Rattle.std.specs.Str.Parse.{digits_value}
use Rattle.sc_http.specs.declared.request.Header.{Header}
use Rattle.sc_http.specs.Headers.{is_digits, values_of}

unfoldable pub seen_name : List ℕ
seen_name = codes "catalogue-seen"

-- digits of a number below 2^64, with zeros in front or without
abbrev pub revision_in : List ℕ → Option ℕ
revision_in value = if is_digits value && nat_lt (digits_value 10 value) 18_446_744_073_709_551_616 then Some (digits_value 10 value) else None

-- no value says nothing, one its revision; two can't be read, also where they are equal
abbrev pub one_revision : List (List ℕ) → Option (Option ℕ)
one_revision [] = Some None
one_revision (value ∷ []) = option_map Some (revision_in value)
one_revision (value ∷ (other ∷ values)) = None

-- what the header lines say, where it can be read
abbrev pub seen_in : List Header → Option (Option ℕ)
seen_in headers = one_revision (values_of seen_name headers)
