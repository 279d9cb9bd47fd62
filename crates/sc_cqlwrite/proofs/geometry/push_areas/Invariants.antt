use Rattle.std.proofs.Common.{◌≡◌, drop, map}
use Rattle.sc_cqlwrite.specs.Tokens as tokens
use Rattle.sc_cqlwrite.specs.Spelling.{with_tokens, going_on}
use Rattle.sc_cqlwrite.specs.Geometries.{area_part}
use Rattle.sc_cqlwrite.proofs.geometry.push_areas.Given as goal

-- with the parts that are left the text is whole
abbrev pub invariant-loop-area : goal.invariant-loop-area
invariant-loop-area l =
    with_tokens l.out (going_on l.is_first tokens.comma (map area_part (drop l.area-index l.areas))) ≡ with_tokens l.initial.out (going_on l.initial.is_first tokens.comma (map area_part l.areas))
