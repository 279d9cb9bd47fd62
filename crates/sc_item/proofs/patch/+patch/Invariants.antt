use Rattle.std.proofs.Common.{◌≡◌, List, ◌++◌, take}
use Rattle.sc_json.specs.declared.tree.Member.{Member}
use Rattle.sc_item.specs.Patch.{AreKept, AreAdded}
use Rattle.sc_item.proofs.patch.+patch.Given as goal

abbrev pub invariant-changed-loop-member : goal.invariant-changed-loop-member
invariant-changed-loop-member l = AreKept l.changes (take l.member-index l.members) l.all.items

abbrev pub invariant-changed-loop-change : goal.invariant-changed-loop-change
invariant-changed-loop-change l =
    (kept added : List Member) × (l.all.items ≡ kept ++ added) × AreKept l.changes l.members kept × AreAdded l.members (take l.change-index l.changes) added
