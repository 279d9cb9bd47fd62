use Rattle.std.proofs.Common.{◌≡◌, drop}
use Rattle.sc_eval.specs.Selection.{is_one_of}
use Rattle.sc_eval.proofs.select.is_one_of.Given as goal

abbrev pub invariant-loop-other : goal.invariant-loop-other
invariant-loop-other l = is_one_of (drop l.other-index l.names) l.name ≡ is_one_of l.fn.names l.fn.name
