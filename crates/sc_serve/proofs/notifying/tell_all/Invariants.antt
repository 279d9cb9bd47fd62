use Rattle.std.proofs.Common.{◌≡◌, ◌++◌}
use Rattle.std.specs.Vec.Iter.{into_iter_items}
use Rattle.sc_serve.specs.Notices.{AreTold}
use Rattle.sc_serve.proofs.notifying.tell_all.Given as goal

abbrev pub invariant-loop-name : goal.invariant-loop-name
invariant-loop-name g l = record {
  split : l.fn.names.items ≡ l.yielded ++ into_iter_items l.name-iterator;
  told : AreTold l.yielded l.fn.notices l.notices;
}
