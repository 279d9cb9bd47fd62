use Rattle.std.proofs.Common.{◌≡◌, drop}
use Rattle.std.specs.List.{list_any, flat_map}
use Rattle.sc_cqlwrite.specs.Spellable.{ends_in_backslash, texts_of}
use Rattle.sc_cqlwrite.proofs.spellable.+ends.Given as goal

-- one of the members that are left decides
abbrev pub invariant-any_member_ends-loop-member : goal.invariant-any_member_ends-loop-member
invariant-any_member_ends-loop-member l =
    list_any ends_in_backslash (flat_map texts_of (drop l.member-index l.members)) ≡ list_any ends_in_backslash (flat_map texts_of l.members)
