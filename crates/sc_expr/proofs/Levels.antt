-- The depth and the nodes of an expression by those of its parts, at the variants that hold lists.
use Rattle.std.proofs.Common.{◌≡◌, ℕ, ◌+◌, ◌-◌, ◌^◌, ◌<◌, ◌≤◌, min, max, List, length, drop, map, sum, sym, ap, ◌∙◌, arith}
use Rattle.std.proofs.lemmas.List.{drop_all}
use Rattle.std.proofs.lemmas.List.Sums.{sum_by-cons}
use Rattle.sc_expr.specs.declared.scalar.Scalar.{Scalar}
use Rattle.sc_expr.specs.declared.expr.Expr.{Expr}
use Rattle.sc_expr.specs.declared.expr.Expr.TheVariants as exprs
use Rattle.sc_expr.specs.declared.expr.Expr.TheOpen as outer
use Rattle.sc_expr.specs.declared.expr.Expr.TheFolds.{fold-roll-Expr}
use Rattle.sc_expr.specs.Measure.{greatest, level_depth, depth, scalar_nodes, level_nodes, nodes}
use Rattle.sc_expr.specs.Filter.{in_bits}

pub and_depth : (members : List Expr) → depth (exprs.And members) ≡ greatest (map depth members) + 1
and_depth members = ap depth (sym (exprs.rolls-And members)) ∙ fold-roll-Expr ℕ level_depth (outer.And members)

pub or_depth : (members : List Expr) → depth (exprs.Or members) ≡ greatest (map depth members) + 1
or_depth members = ap depth (sym (exprs.rolls-Or members)) ∙ fold-roll-Expr ℕ level_depth (outer.Or members)

pub and_nodes : (members : List Expr) → nodes (exprs.And members) ≡ sum (map nodes members) + 1
and_nodes members = ap nodes (sym (exprs.rolls-And members)) ∙ fold-roll-Expr ℕ level_nodes (outer.And members)

pub or_nodes : (members : List Expr) → nodes (exprs.Or members) ≡ sum (map nodes members) + 1
or_nodes members = ap nodes (sym (exprs.rolls-Or members)) ∙ fold-roll-Expr ℕ level_nodes (outer.Or members)

pub among_nodes : (operand : Scalar) (listed : List Scalar) → nodes (exprs.Among operand listed) ≡ scalar_nodes operand + sum (map scalar_nodes listed) + 1
among_nodes operand listed =
    ap nodes (sym (exprs.rolls-Among operand listed)) ∙ fold-roll-Expr ℕ level_nodes (outer.Among operand listed)
    ∙ ap (λ n. n + 1) (sum_by-cons (λ n. n) (scalar_nodes operand) (map scalar_nodes listed))

-- ---- counts that stay at the greatest of their type

pub one_deeper_capped : (result below d : ℕ) → result ≡ min (below + 1) (2 ^ 32 - 1) → below ≡ in_bits 32 d → result ≡ in_bits 32 (d + 1)
one_deeper_capped result below d r b = omega arith

pub one_more_capped : (result below n : ℕ) → result ≡ min (below + 1) (2 ^ 64 - 1) → below ≡ in_bits 64 n → result ≡ in_bits 64 (n + 1)
one_more_capped result below n r b = omega arith

pub both_capped : (result left right a b : ℕ) → result ≡ min (left + right) (2 ^ 64 - 1) → left ≡ in_bits 64 a → right ≡ in_bits 64 b → result ≡ in_bits 64 (b + a)
both_capped result left right a b r l k = omega arith

module _ {A : Type 0} (measure : A → ℕ) (xs : List A) (i : ℕ) (past : length xs ≤ i) where
  pub all_deepest : (g : ℕ) → (g < 2 ^ 32) → in_bits 32 (max g (greatest (map measure (drop i xs)))) ≡ in_bits 32 (greatest (map measure xs)) → g ≡ in_bits 32 (greatest (map measure xs))
  all_deepest g fits kept = let h = rw (drop_all i xs past) at kept in omega (arith, h)

  pub all_counted : (g : ℕ) → (g < 2 ^ 64) → in_bits 64 (g + sum (map measure (drop i xs))) ≡ in_bits 64 (sum (map measure xs)) → g ≡ in_bits 64 (sum (map measure xs))
  all_counted g fits kept = let h = rw (drop_all i xs past) at kept in omega (arith, h)
