use Rattle.std.proofs.Common.{◌≡◌, ◌++◌, length, string_bytes}
use Rattle.std.specs.List.{flat_map}
use denote.Shadow.{shadow}
use denote.Text.{Utf8}
use Rattle.sc_json.specs.Compact.{escaped}
use Rattle.sc_json.proofs.quote.push_quoted.Given as goal

-- what is written and what is left are all of it
abbrev pub invariant-texts : goal.invariant-texts
invariant-texts l = record {
  utf8 : shadow (Utf8 l.rest);
  same : string_bytes l.out ++ flat_map escaped l.rest ≡ string_bytes l.initial.out ++ flat_map escaped l.fn.text;
}

abbrev pub decreases-texts : goal.decreases-texts
decreases-texts l = length l.rest
