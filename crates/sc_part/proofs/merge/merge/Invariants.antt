use Rattle.std.proofs.Common.{◌≡◌, ◌≤◌, ◌++◌, length, take, drop}
use Rattle.sqlite_keyed.specs.Lists.{sort_by}
use Rattle.sc_part.specs.Entry.{ids_of}
use Rattle.sc_part.specs.Index.{AreFor}
use Rattle.sc_part.specs.Merged.{AreMoved, staying}
use Rattle.sc_part.specs.Scan.{scan_order, shared}
use Rattle.sc_part.proofs.merge.merge.Given as goal

abbrev pub invariant-loop-place : goal.invariant-loop-place
invariant-loop-place l = record {
  within : l.at ≤ length l.come;
  items : shared l.out.items ++ sort_by scan_order (drop l.at (shared l.come) ++ staying (drop l.place l.marks) (drop l.place (shared l.items))) ≡ sort_by scan_order (shared l.come ++ staying l.marks (shared l.items));
  moved : AreMoved (ids_of l.items) (ids_of l.out.items) l.marks l.moved.items l.place;
  fresh : AreFor (ids_of l.out.items) l.fresh.items (take l.at (ids_of l.come));
}
