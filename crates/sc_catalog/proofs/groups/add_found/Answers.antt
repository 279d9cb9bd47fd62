use Rattle.std.proofs.Common.{rules, to_z-of_z, FitsSigned, w32, ◌≡◌, ◌∙◌, Some, None}
use Rattle.std.specs.Arc.{arc_value}
use Rattle.sc_history.specs.Content.{item_in}
use Rattle.sc_catalog.proofs.Steps.{departed, found_own, not_departed, stood_found, stood_nowhere}
use Rattle.sc_catalog.proofs.groups.add_found.Goals as goal

pub returns-in_ok-add_departure-in-Some : goal.returns-in_ok-add_departure-in-Some
returns-in_ok-add_departure-in-Some c = λ items come gone ix all are.
    let fits : FitsSigned w32 c.key_in.result = search rules in
    let e : Some (arc_value c.in-Some.item.now) ≡ item_in items c.args.collection.now c.args.id.now = c.in-Some.ensures ∙ ix.each c.args.collection.now c.args.id.now in
    let own = found_own items c.args.collection.now c.args.id.now (arc_value c.in-Some.item.now) e all in
    departed items c.args.collection.now c.args.cut gone come c.args.groups.now c.add_departure.new.groups c.args.id.now c.key_in.result
    (λ k. stood_found items c.args.collection.now c.args.cut k c.args.id.now (arc_value c.in-Some.item.now) e ∙ (rw c.deref.ensures at c.key_in.ensures) c.args.collection.now k own.1 own.0)
    c.in_ok-add_departure-in-Some.ensures.come (rw (to_z-of_z fits) at c.in_ok-add_departure-in-Some.ensures.gone) (rw (to_z-of_z fits) at c.in_ok-add_departure-in-Some.ensures.some) are

pub returns-in-None : goal.returns-in-None
returns-in-None c = λ items come gone ix all are.
    let e : None ≡ item_in items c.args.collection.now c.args.id.now = c.in-None.ensures ∙ ix.each c.args.collection.now c.args.id.now in
    not_departed items c.args.collection.now c.args.cut gone come c.args.groups.now c.args.id.now (λ k. stood_nowhere items c.args.collection.now c.args.cut k c.args.id.now e) are
