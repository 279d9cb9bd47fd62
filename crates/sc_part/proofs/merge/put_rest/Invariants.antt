use Rattle.std.proofs.Common.{◌≡◌, ◌++◌, take, drop}
use Rattle.sc_part.specs.Entry.{ids_of}
use Rattle.sc_part.specs.Index.{AreFor, Extends}
use Rattle.sc_part.specs.Scan.{shared}
use Rattle.sc_part.proofs.merge.put_rest.Given as goal

abbrev pub invariant-loop-at : goal.invariant-loop-at
invariant-loop-at l = record {
  items : shared l.out.items ++ drop l.at (shared l.come) ≡ shared l.fn.out.items ++ drop l.from (shared l.come);
  fresh : AreFor (ids_of l.out.items) l.fresh.items (take l.at (ids_of l.come));
  grown : Extends (ids_of l.fn.out.items) (ids_of l.out.items);
}
