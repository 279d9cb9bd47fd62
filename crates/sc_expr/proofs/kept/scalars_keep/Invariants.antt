use Rattle.std.proofs.Common.{take}
use Rattle.std.specs.List.{All}
use Rattle.sc_expr.specs.Kept.{IsKeptScalar}
use Rattle.sc_expr.proofs.kept.scalars_keep.Given as goal

abbrev pub invariant-loop-scalar : goal.invariant-loop-scalar
invariant-loop-scalar l = All IsKeptScalar (take l.scalar-index l.scalars)
