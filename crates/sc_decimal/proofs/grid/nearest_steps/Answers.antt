use Rattle.std.proofs.Common.{◌≡◌, ℕ, ◌+◌, ◌*◌, ◌/◌, ◌^◌, ◌≤ℤ◌, ℤ, false, w32, sym, ap, ◌∙◌, arith}
use Rattle.std.proofs.lemmas.Int.{ints, to_z-of_z}
use Rattle.sc_decimal.specs.Number.{above}
use Rattle.sc_decimal.specs.Grid.{kept_on_grid, grid_exponent}
use Rattle.sc_decimal.proofs.Nearest.{nearest_up, nearest_down}
use Rattle.sc_decimal.proofs.grid.nearest_steps.Goals as goal

pub returns-clause-nearest : goal.returns-clause-nearest
returns-clause-nearest c =
    let k : c.above-2.result ≡ above grid_exponent c.args.e = c.above-2.ensures.value ∙ ap (above grid_exponent) (to_z-of_z w32 c.args.e c.ranges.e) in
    let low : c.args.e ≤ℤ grid_exponent = grind (arith, ints) in
    c.scaled_down.ensures ∙ ap (λ (x : ℕ). kept_on_grid ((2 * c.args.m + 10 ^ x) / (2 * 10 ^ x))) k ∙ ap kept_on_grid (sym (nearest_down (record { neg = false; m = c.args.m; e = c.args.e }) low))

pub returns-then-e-ge-GRID_EXPONENT-clause-nearest : goal.returns-then-e-ge-GRID_EXPONENT-clause-nearest
returns-then-e-ge-GRID_EXPONENT-clause-nearest c =
    let k : c.above.result ≡ above c.args.e grid_exponent = c.above.ensures.value ∙ ap (λ (z : ℤ). above z grid_exponent) (to_z-of_z w32 c.args.e c.ranges.e) in
    let high : grid_exponent ≤ℤ c.args.e = grind (arith, ints) in
    c.scaled_up.ensures ∙ ap (λ (x : ℕ). kept_on_grid (c.args.m * 10 ^ x)) k ∙ ap kept_on_grid (sym (nearest_up (record { neg = false; m = c.args.m; e = c.args.e }) high))
