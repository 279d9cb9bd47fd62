use Rattle.std.proofs.Common.{◌≡◌, drop}
use Rattle.sc_json.specs.Member.{value_in}
use Rattle.sc_json.proofs.tree.find_member.Given as goal

abbrev pub invariant-loop-member : goal.invariant-loop-member
invariant-loop-member l = value_in (drop l.member-index l.members) l.name ≡ value_in l.fn.members l.name
