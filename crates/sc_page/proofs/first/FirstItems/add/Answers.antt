use Rattle.std.proofs.Common.{refl, sym, ◌∙◌, ap, ◌++◌, ◌∷◌, []}
use Rattle.std.specs.Arc.{arc_value}
use Rattle.sc_item.specs.Feature.{Feature}
use Rattle.sc_page.specs.ItemKey.{item_order}
use Rattle.sc_page.specs.Leading.{last_of_full, may_stand}
use Rattle.sc_page.specs.Search.{is_asked, shared}
use Rattle.sc_page.proofs.Collected.{found_late, found_unasked, found_waiting}
use Rattle.sc_page.proofs.first.FirstItems.add.Goals as goal

pub returns-then-not-may_enter : goal.returns-then-not-may_enter
returns-then-not-may_enter c items apart f =
    let asked = c.args.search.now in
    let self = c.args.self.now in
    let late = ap (λ (y : Feature). may_stand (item_order asked.sort) (last_of_full self.most (shared self.first.items)) y) (sym c.deref.ensures) ∙ sym c.may_enter.ensures ∙ c.if-not-may_enter.true in
    found_late asked items (arc_value c.args.item.now) self f late

pub returns-then-not-asked : goal.returns-then-not-asked
returns-then-not-asked c items apart f =
    let asked = c.args.search.now in
    let no = ap (is_asked asked) (sym c.deref-2.ensures) ∙ sym c.in_ok-asked.ensures ∙ c.if-not-asked.true in
    found_unasked asked items (arc_value c.args.item.now) c.args.self.now f no

pub returns : goal.returns
returns c items apart f =
    let asked = c.args.search.now in
    let self = c.args.self.now in
    let x = arc_value c.args.item.now in
    let may = ap (λ (y : Feature). may_stand (item_order asked.sort) (last_of_full self.most (shared self.first.items)) y) (sym c.deref.ensures) ∙ sym c.may_enter.ensures ∙ c.if-not-may_enter.false in
    let yes = ap (is_asked asked) (sym c.deref-2.ensures) ∙ sym c.in_ok-asked.ensures ∙ c.if-not-asked.false in
    c.in_ok-settle_many.ensures (items ++ x ∷ []) apart (found_waiting asked items x self _ c.in_ok-shared.shared f c.in_ok-shared.ensures may yes refl refl c.in_ok-push.ensures.items)
