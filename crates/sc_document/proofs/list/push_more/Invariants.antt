use Rattle.std.proofs.Common.{◌≡◌, ◌++◌, ◌∷◌, take, string_bytes}
use Rattle.std.specs.List.{flat_map}
use Rattle.sc_json.specs.Compact.{compact}
use Rattle.sc_document.proofs.list.push_more.Given as goal

abbrev pub invariant-loop-tree : goal.invariant-loop-tree
invariant-loop-tree l =
    string_bytes l.text ≡ string_bytes l.initial.text ++ flat_map (λ tree. 44 ∷ compact tree) (take l.tree-index l.trees)
