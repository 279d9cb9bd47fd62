use Rattle.std.proofs.Common.{map}
use Rattle.std.specs.Arc.{arc_value}
use Rattle.sc_catalog.proofs.Grouping.{made_from}
use Rattle.sc_catalog.proofs.groups.changes_by.Goals as goal

pub returns : goal.returns
returns c = λ content change made is t items there same of takes brings ix.
    made_from content change c.args.cut made c.in_ok-groups.groups c.in_ok-changes.changes.items c.args.collection.now c.args.gone.now (map arc_value c.args.come.now) is t items of takes brings there same
    (c.in_ok-groups.ensures content.items ix is.read) c.in_ok-changes.ensures.ordered c.in_ok-changes.ensures.changes
