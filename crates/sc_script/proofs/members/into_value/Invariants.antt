use Rattle.std.proofs.Common.{◌≡◌}
use Rattle.std.specs.Vec.Iter.{into_iter_items}
use Rattle.sc_json.specs.Member.{value_in}
use Rattle.sc_script.proofs.members.into_value.Given as goal

abbrev pub invariant-loop-member : goal.invariant-loop-member
invariant-loop-member l = value_in (into_iter_items l.member-iterator) l.name ≡ value_in l.fn.members l.name
