use Rattle.std.proofs.Common.{◌≡◌, ◌++◌, drop}
use Rattle.std.specs.Prelude.{option_map}
use Rattle.sc_need.specs.Need.{texts_of}
use Rattle.sc_need.proofs.predicate.texts_of.Given as goal

abbrev pub invariant-loop-scalar : goal.invariant-loop-scalar
invariant-loop-scalar l = option_map (λ rest. l.texts ++ rest) (texts_of (drop l.scalar-index l.scalars)) ≡ texts_of l.fn.scalars
