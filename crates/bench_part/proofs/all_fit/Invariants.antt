use Rattle.std.specs.List.{AllWithin}
use Rattle.sc_part.specs.Scan.{Fits, shared}
use Rattle.bench_part.proofs.all_fit.Given as goal

abbrev pub invariant-loop-item : goal.invariant-loop-item
invariant-loop-item l = AllWithin (Fits l.name) (shared l.items) 0 l.item-index
