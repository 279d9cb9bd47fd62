use Rattle.std.proofs.Common.{◌≡◌, ◌++◌}
use Rattle.std.specs.Vec.Iter.{into_iter_items}
use Rattle.sc_page.specs.Search.{shared}
use Rattle.bench_flat.proofs.share.Given as goal

abbrev pub invariant-loop-item : goal.invariant-loop-item
invariant-loop-item l = l.fn.items.items ≡ shared l.out.items ++ into_iter_items l.item-iterator
