use Rattle.std.proofs.Common.{◌≡◌, true, refl, sym, ◌∙◌, ap, ◌++◌, ◌∷◌, []}
use Rattle.sc_page.specs.Leading.{last_of_full, may_stand}
use Rattle.sc_page.specs.Order.{default_order}
use Rattle.sc_page.proofs.Keeping.{seen_with}
use Rattle.sc_page.proofs.page.PageSoFar.add.Goals as goal

pub returns-in_ok-settle : goal.returns-in_ok-settle
returns-in_ok-settle c limit items apart s =
    let x = c.args.item.now in
    let may : may_stand default_order (last_of_full c.args.self.now.limit c.args.self.now.page.items) x ≡ true =
    ap (λ l. may_stand default_order l x) (sym (c.last_of_full.ensures ∙ ap (last_of_full c.args.self.now.limit) c.deref.ensures.value)) ∙ sym c.may_stand.ensures ∙ c.if-not-may_stand.false in
    let waits = c.in_ok-push.ensures.items ∙ ap (λ t. c.args.self.now.waiting.items ++ t ∷ []) c.in_ok-of.ensures in
    (c.in_ok-settle.ensures limit (items ++ x ∷ []) apart (seen_with limit c.args.self.now _ items x s may refl refl waits)).0

pub returns-else-len-max : goal.returns-else-len-max
returns-else-len-max c limit items apart s =
    let x = c.args.item.now in
    let may : may_stand default_order (last_of_full c.args.self.now.limit c.args.self.now.page.items) x ≡ true =
    ap (λ l. may_stand default_order l x) (sym (c.last_of_full.ensures ∙ ap (last_of_full c.args.self.now.limit) c.deref.ensures.value)) ∙ sym c.may_stand.ensures ∙ c.if-not-may_stand.false in
    let waits = c.in_ok-push.ensures.items ∙ ap (λ t. c.args.self.now.waiting.items ++ t ∷ []) c.in_ok-of.ensures in
    seen_with limit c.args.self.now _ items x s may refl refl waits
