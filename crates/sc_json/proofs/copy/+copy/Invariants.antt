use Rattle.std.proofs.Common.{◌≡◌, take}
use Rattle.sc_json.proofs.copy.+copy.Given as goal

abbrev pub invariant-copy_members-loop-member : goal.invariant-copy_members-loop-member
invariant-copy_members-loop-member l = l.copies.items ≡ take l.member-index l.members

abbrev pub invariant-copy_elements-loop-element : goal.invariant-copy_elements-loop-element
invariant-copy_elements-loop-element l = l.copies.items ≡ take l.element-index l.elements
