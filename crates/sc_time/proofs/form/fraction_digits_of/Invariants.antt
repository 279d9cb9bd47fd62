use Rattle.std.proofs.Common.{◌≡◌, ◌≤◌, ◌<◌, ◌+◌, ◌-◌, ◌^◌, length, take, drop}
use Rattle.std.specs.List.{prefix_len}
use Rattle.std.specs.Char.{is_ascii_digit}
use Rattle.std.specs.Str.Parse.{digits_value}
use Rattle.sc_time.proofs.form.fraction_digits_of.Given as goal

abbrev pub invariant-digits : goal.invariant-digits
invariant-digits l = record {
  few : l.count ≤ 9;
  within : l.count ≤ length l.text;
  passed : prefix_len is_ascii_digit (drop l.count l.text) + l.count ≡ prefix_len is_ascii_digit l.text;
  small : l.value < 10 ^ l.count;
  number : l.value ≡ digits_value 10 (take l.count l.text);
}

abbrev pub decreases-digits : goal.decreases-digits
decreases-digits l = length l.initial.text - l.count
