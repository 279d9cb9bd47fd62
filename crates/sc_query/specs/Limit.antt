-- How many items a search asks for at most (STAC API, Item Search, `limit`).
use Rattle.std.specs.Prelude.{ℕ, ◌*◌, ◌^◌, ◌==◌, ◌&&◌, min, Bool, true, false, if◌then◌else◌, ℤ, pos, negsuc, nat_lt, List, length, Option, Some, None, Result, Ok, Err}
use Rattle.std.specs.List.{list_all}
use Rattle.std.specs.Char.{is_ascii_digit}
use Rattle.std.specs.Option.{option_and_then}
use Rattle.std.specs.Str.Parse.{digits_value}
use Rattle.sc_decimal.specs.Number.{Number}
use Rattle.sc_json.specs.Views.{number_of}
use Rattle.sc_query.specs.declared.fault.QueryFault.{QueryFault}
use Rattle.sc_query.specs.declared.fault.QueryFault.TheVariants.{BadLimit}
use Rattle.sc_query.specs.Given.{Parameter, in_text, in_tree}

-- a text's digits, whatever their number
abbrev pub count_in_text : List ℕ → Option ℕ
count_in_text text = if nat_lt 0 (length text) && list_all is_ascii_digit text then Some (digits_value 10 text) else None

-- a number in its one form is whole exactly where its exponent isn't negative; 10 to the power 1 is 10
abbrev pub whole_from : Bool → ℕ → ℤ → Option ℕ
whole_from true m e = None
whole_from false m (pos e) = Some (m * 10 ^ e)
whole_from false m (negsuc e) = None

-- the whole number that a number is, where it isn't negative
abbrev pub whole_of : Number → Option ℕ
whole_of number = whole_from number.neg number.m number.e

-- digits in a text, a whole number by its value in a body
abbrev pub count_given : Parameter → Option ℕ
count_given (in_text text) = count_in_text text
count_given (in_tree tree) = option_and_then whole_of (number_of tree)

-- from 1 on; more than 10,000 are asked for as 10,000
abbrev pub served : Option ℕ → Result ℕ QueryFault
served None = Err BadLimit
served (Some count) = if count == 0 then Err BadLimit else Ok (min count 10_000)

-- 10 where it isn't given
abbrev pub limit_of : Option Parameter → Result ℕ QueryFault
limit_of None = Ok 10
limit_of (Some given) = served (count_given given)
