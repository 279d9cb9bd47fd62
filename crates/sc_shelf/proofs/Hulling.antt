-- What comes into a part that is made, and shared items one by one.
use Rattle.std.proofs.Common.{◌≡◌, ℕ, ◌+◌, ◌<◌, List, [], ◌∷◌, ◌++◌, length, get_or, take, map, sym, ap, ◌∙◌}
use Rattle.std.specs.Arc.{arc_value}
use Rattle.std.specs.declared.alloc.Global.{Global}
use Rattle.std.specs.declared.sync.Arc.{Arc}
use Rattle.std.proofs.lemmas.List.{append-nil, map-append, take-map, take_more}
use Rattle.sc_item.specs.Feature.{Feature}
use Rattle.sc_part.specs.Scan.{after, shared}
use Rattle.sc_history.specs.Names.{scan_of}

-- what comes into no items
pub scan_of_come : (come : List Feature) → scan_of (after [] come []) ≡ scan_of come
scan_of_come come = ap scan_of (append-nil come)

pub taken : (items : List (Arc Feature Global)) (i : ℕ) (a : Arc Feature Global) → i < length items → a ≡ get_or items i a → take (i + 1) (shared items) ≡ take i (shared items) ++ arc_value a ∷ []
taken items i a lt here =
    take-map arc_value (i + 1) items ∙ ap (map arc_value) (take_more items i a lt ∙ ap (λ x. take i items ++ x ∷ []) (sym here))
    ∙ map-append arc_value (take i items) (a ∷ []) ∙ ap (λ l. l ++ arc_value a ∷ []) (sym (take-map arc_value i items))
