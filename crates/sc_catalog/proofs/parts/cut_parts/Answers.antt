use Rattle.std.proofs.Common.{◌+◌, length, map, refl, sym, subst, ◌∙◌}
use Rattle.std.specs.Arc.{arc_value}
use Rattle.sc_history.specs.History.{replay}
use Rattle.sc_history.proofs.Pasts.{past_content, past_next}
use Rattle.sc_shelf.specs.Changed.{AreChanged}
use Rattle.sc_shelf.proofs.Publishing.{all_can_change, are_published}
use Rattle.sc_catalog.specs.Kept.{change_of}
use Rattle.sc_catalog.proofs.Preparing.{come_own}
use Rattle.sc_catalog.proofs.Publishing.{made_changes, touched_so_named}
use Rattle.sc_catalog.proofs.parts.cut_parts.Goals as goal

pub changes_by-requires : goal.changes_by-requires
changes_by-requires c = rw c.collection.ensures (come_own c.requires.past c.args.load.now (map arc_value c.args.come.now) c.requires.at.allowed)

pub with_changes-requires : goal.with_changes-requires
with_changes-requires c =
    let past = c.requires.past in
    let at = c.requires.at in
    let change = change_of c.args.load.now (map arc_value c.args.come.now) in
    let made = c.in_ok-changes.ensures (replay past) change at.collection (past_content past at.is) at.allowed at.items (rw c.collection.ensures at.there) at.cut_is (sym c.collection.ensures) (sym (c.deref.ensures.value ∙ c.in_ok-gone.ensures)) refl at.indexes in
    rw c.deref-2.ensures.value (all_can_change past change c.args.parts.now c.in_ok-changes.changes.items (past_next past change at.is at.allowed) at.stand (made_changes past change c.in_ok-changes.changes.items c.args.parts.now at.stand made))

pub returns : goal.returns
returns c = λ past at.
    let change = change_of c.args.load.now (map arc_value c.args.come.now) in
    let made = c.in_ok-changes.ensures (replay past) change at.collection (past_content past at.is) at.allowed at.items (rw c.collection.ensures at.there) at.cut_is (sym c.collection.ensures) (sym (c.deref.ensures.value ∙ c.in_ok-gone.ensures)) refl at.indexes in
    let changed = rw c.deref-2.ensures.value at c.in_ok-new.ensures in
    let are : AreChanged (length past + 1) c.in_ok-changes.changes.items c.args.parts.now c.in_ok-new.new = subst (λ r. AreChanged r c.in_ok-changes.changes.items c.args.parts.now c.in_ok-new.new) at.revision_is changed in
    record {
      parts_are = are_published past change c.args.parts.now c.in_ok-changes.changes.items (past_next past change at.is at.allowed) at.stand (made_changes past change c.in_ok-changes.changes.items c.args.parts.now at.stand made) c.in_ok-new.new are;
      touched_are = (rw c.deref-3.ensures.value at c.in_ok-touched.ensures) ∙ touched_so_named past change c.in_ok-changes.changes.items c.in_ok-new.new are.rise made;
    }
