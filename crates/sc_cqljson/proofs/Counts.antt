-- How many values a tree has by what stands in it, in numbers that stay at the greatest of their type.
use Rattle.std.proofs.Common.{◌≡◌, ℕ, ◌+◌, ◌-◌, ◌^◌, ◌<◌, ◌≤◌, min, List, [], ◌∷◌, length, drop, map, sum, refl, sym, ap, ◌∙◌, arith}
use Rattle.std.proofs.lemmas.List.{drop_all}
use Rattle.sc_json.specs.declared.tree.Json.{Json}
use Rattle.sc_json.specs.declared.tree.Json.TheVariants as trees
use Rattle.sc_json.specs.declared.tree.Json.TheOpen as layer
use Rattle.sc_json.specs.declared.tree.Json.TheFolds.{fold-Member, fold-roll-Json, fold_out-Member}
use Rattle.sc_json.specs.declared.tree.Member.{Member, out-Member}
use Rattle.sc_expr.specs.Filter.{in_bits}
use Rattle.sc_json.specs.Views.{level_values, member_values, values}

pub list_values : (elements : List Json) → values (trees.List elements) ≡ 1 + sum (map values elements)
list_values elements = ap values (sym (trees.rolls-List elements)) ∙ fold-roll-Json ℕ ℕ level_values member_values (layer.List elements)

-- the number of values in a member is that of its value
by_value : (ms : List Member) → map (fold-Member ℕ ℕ level_values member_values) ms ≡ map (λ m. values (out-Member m).value) ms
by_value [] = refl
by_value (m ∷ ms) = ap (λ n. n ∷ map (fold-Member ℕ ℕ level_values member_values) ms) (fold_out-Member ℕ ℕ level_values member_values m) ∙ ap (λ (ns : List ℕ). values (out-Member m).value ∷ ns) (by_value ms)

pub object_values : (members : List Member) → values (trees.Object members) ≡ 1 + sum (map (λ m. values (out-Member m).value) members)
object_values members =
    ap values (sym (trees.rolls-Object members)) ∙ fold-roll-Json ℕ ℕ level_values member_values (layer.Object members) ∙ ap (λ (ns : List ℕ). 1 + sum ns) (by_value members)

pub one_more_capped : (result below n : ℕ) → result ≡ min (below + 1) (2 ^ 64 - 1) → below ≡ in_bits 64 n → result ≡ in_bits 64 (1 + n)
one_more_capped result below n r b = omega arith

module _ {A : Type 0} (measure : A → ℕ) (xs : List A) (i : ℕ) (past : length xs ≤ i) where
  pub all_counted : (g : ℕ) → (g < 2 ^ 64) → in_bits 64 (g + sum (map measure (drop i xs))) ≡ in_bits 64 (sum (map measure xs)) → g ≡ in_bits 64 (sum (map measure xs))
  all_counted g fits kept = let h = rw (drop_all i xs past) at kept in omega (arith, h)
