use Rattle.std.proofs.Common.{◌≡◌, ◌<◌, ◌^◌, map, sum, ◌+◌, drop}
use Rattle.sc_json.specs.declared.tree.Member.{out-Member}
use Rattle.sc_expr.specs.Filter.{in_bits}
use Rattle.sc_json.specs.Views.{values}
use Rattle.sc_cqljson.proofs.numbers.+values.Given as goal

abbrev pub invariant-values_of-loop-tree : goal.invariant-values_of-loop-tree
invariant-values_of-loop-tree l =
    (l.total < 2 ^ 64) × (in_bits 64 (l.total + sum (map values (drop l.tree-index l.trees))) ≡ in_bits 64 (sum (map values l.trees)))

abbrev pub invariant-values_of_members-loop-member : goal.invariant-values_of_members-loop-member
invariant-values_of_members-loop-member l =
    (l.total < 2 ^ 64) × (in_bits 64 (l.total + sum (map (λ m. values (out-Member m).value) (drop l.member-index l.members))) ≡ in_bits 64 (sum (map (λ m. values (out-Member m).value) l.members)))
