use Rattle.std.proofs.Common.{◌≡◌, ◌≤◌, length}
use Rattle.std.specs.Prelude.{min}
use Rattle.std.specs.Char.{is_ascii_digit}
use Rattle.std.specs.List.{list_all}
use Rattle.std.specs.Str.Parse.{digits_value, digits_value_after}
use Rattle.sc_route.proofs.seen.digits_total.Given as goal

abbrev pub invariant-digits : goal.invariant-digits
invariant-digits l = record {
  total : min (digits_value_after 10 l.total l.rest) 18_446_744_073_709_551_616 ≡ min (digits_value 10 l.value) 18_446_744_073_709_551_616;
  all : list_all is_ascii_digit l.rest ≡ list_all is_ascii_digit l.value;
  small : l.total ≤ 18_446_744_073_709_551_616;
}

abbrev pub decreases-digits : goal.decreases-digits
decreases-digits l = length l.rest
