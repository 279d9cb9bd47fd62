-- Trees between commas, by what stands behind the first.
use Rattle.std.proofs.Common.{◌≡◌, ℕ, List, [], ◌∷◌, ◌++◌, sym, ◌∙◌, ap, append-nil, append_assoc}
use Rattle.std.specs.List.{flat_map}
use Rattle.sc_json.specs.declared.tree.Json.{Json}
use Rattle.sc_json.specs.Compact.{compact}
use Rattle.sc_document.specs.Documents.{tree_texts}

trees_are : (x : Json) (xs : List Json) → tree_texts (x ∷ xs) ≡ compact x ++ flat_map (λ tree. 44 ∷ compact tree) xs
trees_are x [] = sym (append-nil (compact x))
trees_are x (y ∷ ys) = ap (λ t. compact x ++ (44 ∷ t)) (trees_are y ys)

-- what stands after the first tree was written, and then the others
pub trees_written : (old mid new : List ℕ) (trees rest : List Json) (x : Json) → trees ≡ x ∷ rest → mid ≡ old ++ compact x
    → new ≡ mid ++ flat_map (λ tree. 44 ∷ compact tree) rest → new ≡ old ++ tree_texts trees
trees_written old mid new trees rest x e m n =
    n ∙ ap (λ t. t ++ flat_map (λ tree. 44 ∷ compact tree) rest) m ∙ append_assoc old (compact x) (flat_map (λ tree. 44 ∷ compact tree) rest)
    ∙ ap (λ t. old ++ t) (sym (trees_are x rest) ∙ ap tree_texts (sym e))
