use Rattle.std.proofs.Common.{sym}
use Rattle.sc_part.proofs.Changing.{find_nowhere, find_there, kept_distinct}
use Rattle.sc_part.proofs.version.PartVersion.find_id.Goals as goal

pub returns-in-Some : goal.returns-in-Some
returns-in-Some c =
    let items = c.self.inside.items.items in
    let (within, here) = rw (c.as_slice-items.ensures.value, c.as_str.ensures) at c.in-Some.ensures in
    let is = rw c.as_slice-items.ensures.value at c.index-items-place.is in
    rw (← c.self.view_is) (sym (find_there items c.in-Some.place c.index-items-place.result c.args.id.now (kept_distinct c.self.inside.name c.self.inside.stamp items c.self.invariant.kept) within is here))

pub returns-in-None : goal.returns-in-None
returns-in-None c =
    let none = rw (c.as_slice-items.ensures.value, c.as_str.ensures) at c.in-None.ensures in
    rw (← c.self.view_is) (sym (find_nowhere c.self.inside.items.items c.args.id.now none))
