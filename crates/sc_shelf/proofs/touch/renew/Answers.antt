use Rattle.std.proofs.Common.{ap, ◌∙◌, sym, length}
use Rattle.sc_part.specs.Scan.{shared}
use Rattle.sc_history.specs.Changes.{is_among}
use Rattle.sc_history.specs.Names.{scan_of}
use Rattle.sc_history.specs.Touch.{renewed, stamped, widened}
use Rattle.sc_shelf.specs.Changed.{come_by}
use Rattle.sc_shelf.specs.Shelf.{part_of}
use Rattle.sc_shelf.proofs.Touching.{renewed_items, renewed_none, renewed_some}
use Rattle.sc_shelf.proofs.touch.renew.Goals as goal

pub returns-then-len-eq0 : goal.returns-then-len-eq0
returns-then-len-eq0 c =
    let change = c.args.change.now in
    let part = c.args.part.now in
    let items = renewed_items change.gone c.as_slice-gone.result.now change.come c.as_slice-come.result.now c.in_ok-version.version.items part.items c.get.result.now.items c.as_slice-gone.ensures c.as_slice-come.ensures
    (ap (λ v. v.items) c.get.ensures ∙ ap (λ p. p.items) c.shelf-old.ensures) (ap (λ v. v.items) c.in_ok-version.ensures.value) in
    renewed_none c.args.revision change part (ap length (sym items) ∙ sym c.len.ensures ∙ c.if-len-eq0.true)

pub returns : goal.returns
returns c =
    let change = c.args.change.now in
    let part = c.args.part.now in
    let items = renewed_items change.gone c.as_slice-gone.result.now change.come c.as_slice-come.result.now c.in_ok-version.version.items part.items c.get.result.now.items c.as_slice-gone.ensures c.as_slice-come.ensures
    (ap (λ v. v.items) c.get.ensures ∙ ap (λ p. p.items) c.shelf-old.ensures) (ap (λ v. v.items) c.in_ok-version.ensures.value) in
    let scan = scan_of (renewed (is_among change.gone) (come_by change) part.items) in
    renewed_some c.args.revision change part c.in_ok-of.field-0 (λ none. c.if-len-eq0.false (c.len.ensures ∙ ap length items ∙ none))
    (c.in_ok-of.ensures ∙ c.in_ok-shelf.ensures
    ∙ ap (λ l. widened c.args.revision (shared l) (stamped c.args.revision c.in_ok-version.version.items (part_of c.shelf-old.result.now))) c.as_slice-come.ensures
    ∙ ap (λ l. widened c.args.revision (come_by change) (stamped c.args.revision l (part_of c.shelf-old.result.now))) items
    ∙ ap (λ p. widened c.args.revision (come_by change) (stamped c.args.revision scan p)) c.shelf-old.ensures)
