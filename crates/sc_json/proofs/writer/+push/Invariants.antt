use Rattle.std.proofs.Common.{◌≡◌, ◌++◌, ◌∷◌, take, string_bytes}
use Rattle.std.specs.List.{flat_map}
use Rattle.sc_json.specs.Compact.{compact, member_text}
use Rattle.sc_json.proofs.writer.+push.Given as goal

abbrev pub invariant-push_members-loop-member : goal.invariant-push_members-loop-member
invariant-push_members-loop-member l =
    string_bytes l.out ≡ string_bytes l.initial.out ++ flat_map (λ m. 44 ∷ member_text m) (take l.member-index l.rest)

abbrev pub invariant-push_elements-loop-element : goal.invariant-push_elements-loop-element
invariant-push_elements-loop-element l =
    string_bytes l.out ≡ string_bytes l.initial.out ++ flat_map (λ v. 44 ∷ compact v) (take l.element-index l.rest)
