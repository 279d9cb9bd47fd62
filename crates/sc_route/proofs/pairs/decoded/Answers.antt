use Rattle.std.proofs.Common.{◌∙◌, sym, subst}
use Rattle.form_urlencoded.specs.Form.{DecodesTo}
use Rattle.sc_route.proofs.Pushes.{more_read}
use Rattle.sc_route.proofs.pairs.decoded.Goals as goal

pub loop-item-preserved-in_ok-push : goal.loop-item-preserved-in_ok-push
loop-item-preserved-in_ok-push c =
    let s = c.in-Some.ensures.steps.0 in
    let d = rw c.in_ok-name.was at s.3 in
    let e = c.in_ok-pair_of.ensures in
    more_read _ _ _ _ _ s.0 s.1 c.in_ok-pair_of.field-0 c.loop-item.invariant s.2 c.in_ok-push.ensures.items
    (subst (DecodesTo s.0) (sym (e.name ∙ c.as_str.ensures.value)) d.0)
    (subst (DecodesTo s.1) (sym (e.value ∙ c.as_str-in-loop-item.ensures.value)) d.1)

pub loop-item-preserved : goal.loop-item-preserved
loop-item-preserved c =
    let s = c.in-Some.ensures.steps.0 in
    let d = rw c.in_ok-name.was at s.3 in
    let e = c.in_ok-pair_of.ensures in
    more_read _ _ _ _ _ s.0 s.1 c.in_ok-pair_of.field-0 c.loop-item.invariant s.2 c.in_ok-push.ensures.items
    (subst (DecodesTo s.0) (sym (e.name ∙ c.as_str.ensures.value)) d.0)
    (subst (DecodesTo s.1) (sym (e.value ∙ c.as_str-in-loop-item.ensures.value)) d.1)
