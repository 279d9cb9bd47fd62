use Rattle.std.proofs.Common.{rules, ◌≡◌, refl}
use Rattle.std.specs.Arc.{arc_value}
use Rattle.std.proofs.lemmas.Result.{err_from_is_err_and}
use Rattle.sc_load.specs.Items.{renamed}
use Rattle.sc_load.proofs.Patching.{unread_replacement}
use Rattle.sc_load.proofs.Reading.{own_item}
use Rattle.sc_load.proofs.replace.prepare_replace.Goals as goal

pub returns-in_err-item-clause-answer : goal.returns-in_err-item-clause-answer
returns-in_err-item-clause-answer c =
    let p = err_from_is_err_and c.from_residual.result c.from_residual.ensures.1 in
    rw (p.1, p.2) (unread_replacement c.args.collection.now c.args.id.now c.args.tree c.in_err-item.field-0.0 c.in_err-item.ensures)

pub returns-then-ne-clause-answer : goal.returns-then-ne-clause-answer
returns-then-ne-clause-answer c =
    let other : c.in_ok-item.item.id ≡ c.args.id.now → ⊥ = search rules in
    (refl, renamed c.in_ok-item.item c.in_ok-item.ensures other)

pub returns-clause-well_formed : goal.returns-clause-well_formed
returns-clause-well_formed c =
    own_item c.args.collection.now c.in_ok-collection.collection c.args.tree c.in_ok-item.item (arc_value c.in_ok-item-2.item) c.in_ok-item.ensures c.in_ok-item-2.ensures.ok c.in_ok-collection.ensures
