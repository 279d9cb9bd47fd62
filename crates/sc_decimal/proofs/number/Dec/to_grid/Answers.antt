use Rattle.std.proofs.Common.{sym, subst, ◌≡◌, arith}
use Rattle.std.proofs.lemmas.Grind.{common_steps}
use Rattle.sc_decimal.specs.Grid.{IsOnGrid, grid_of}
use Rattle.sc_decimal.proofs.Nearest.{grid_is}
use Rattle.sc_decimal.proofs.number.Dec.to_grid.Goals as goal

pub returns-clause-nearest : goal.returns-clause-nearest
returns-clause-nearest c =
    let value : c.to_grid.result ≡ grid_of c.args.self.now = grind (arith, common_steps) in
    subst (IsOnGrid c.args.self.now) (sym value) (grid_is c.args.self.now)
