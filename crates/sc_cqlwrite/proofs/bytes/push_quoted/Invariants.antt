use Rattle.std.proofs.Common.{◌≡◌, ◌++◌, length, string_bytes}
use Rattle.std.specs.List.{flat_map}
use denote.Shadow.{shadow}
use denote.Text.{Utf8}
use Rattle.sc_cqlwrite.specs.Tokens.{marked}
use Rattle.sc_cqlwrite.proofs.bytes.push_quoted.Given as goal

-- what is written and what is left are all of it
abbrev pub invariant-texts : goal.invariant-texts
invariant-texts l = record {
  utf8 : shadow (Utf8 l.rest);
  same : string_bytes l.out ++ flat_map (marked l.mark l.quote) l.rest ≡ string_bytes l.initial.out ++ flat_map (marked l.mark l.quote) l.fn.text;
}

abbrev pub decreases-texts : goal.decreases-texts
decreases-texts l = length l.rest
