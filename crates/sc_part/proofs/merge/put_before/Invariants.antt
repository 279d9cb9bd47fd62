use Rattle.std.proofs.Common.{◌≡◌, ◌++◌, List, take, drop}
use Rattle.sqlite_keyed.specs.Lists.{sort_by}
use Rattle.sc_item.specs.Feature.{Feature}
use Rattle.sc_part.specs.Entry.{ids_of}
use Rattle.sc_part.specs.Index.{AreFor, Extends}
use Rattle.sc_part.specs.Merged.{AreFrom}
use Rattle.sc_part.specs.Scan.{scan_order, shared}
use Rattle.sc_part.proofs.merge.put_before.Given as goal

abbrev pub invariant-loop-at : goal.invariant-loop-at
invariant-loop-at l = record {
  merges : (rest : List Feature) → AreFrom l.item rest → shared l.out.items ++ sort_by scan_order (drop l.at (shared l.come) ++ rest) ≡ shared l.fn.out.items ++ sort_by scan_order (drop l.from (shared l.come) ++ rest);
  fresh : AreFor (ids_of l.out.items) l.fresh.items (take l.at (ids_of l.come));
  grown : Extends (ids_of l.fn.out.items) (ids_of l.out.items);
}
