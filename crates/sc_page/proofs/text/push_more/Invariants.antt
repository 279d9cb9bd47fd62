use Rattle.std.proofs.Common.{◌≡◌, ◌++◌, ◌∷◌, take, string_bytes}
use Rattle.std.specs.List.{flat_map}
use Rattle.sc_page.proofs.text.push_more.Given as goal

abbrev pub invariant-loop-item : goal.invariant-loop-item
invariant-loop-item l =
    string_bytes l.text ≡ string_bytes l.initial.text ++ flat_map (λ i. 44 ∷ i.doc) (take l.item-index l.items)
