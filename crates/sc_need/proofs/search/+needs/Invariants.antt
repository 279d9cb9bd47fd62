use Rattle.std.proofs.Common.{◌≡◌, map, drop}
use Rattle.sc_need.specs.Need.{joined, all_needs, merged, any_need, need_in}
use Rattle.sc_need.proofs.search.+needs.Given as goal

abbrev pub invariant-all_needs-loop-member : goal.invariant-all_needs-loop-member
invariant-all_needs-loop-member l = joined l.need (map need_in (drop l.member-index l.members)) ≡ all_needs (map need_in l.fn.members)

abbrev pub invariant-any_need-loop-member : goal.invariant-any_need-loop-member
invariant-any_need-loop-member l = merged l.need (map need_in (drop l.member-index l.rest)) ≡ any_need (map need_in l.fn.members)
