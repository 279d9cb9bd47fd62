use Rattle.std.proofs.Common.{◌≡◌, ◌≢◌, sym, ◌∙◌, rules}
use Rattle.sc_item.specs.declared.fault.ItemFault.TheVariants as items
use Rattle.sc_kept.specs.Record.{IsTextOf}
use Rattle.sc_kept.proofs.Telling.{faulty_document, is_document, other_document}
use Rattle.sc_kept.proofs.documents.read_document.Goals as goal

pub returns-then-eq : goal.returns-then-eq
returns-then-eq c =
    let same : c.doc.result.now ≡ c.args.text.now = search rules in
    is_document c.args.collection.now c.args.text.now c.in-Some.tree c.in-Ok.item c.in-Ok.ensures (sym c.doc.ensures.doc ∙ same) c.doc.ensures.kept

pub returns-else-eq : goal.returns-else-eq
returns-else-eq c =
    let text : IsTextOf c.args.text.now c.in-Some.tree = rw c.in-Some.is at c.in_ok-tree.ensures in
    let other : c.doc.result.now ≡ c.args.text.now → ⊥ = search rules in
    other_document c.args.collection.now c.args.text.now c.in-Some.tree c.in-Ok.item text c.in-Ok.ensures (λ same. other (c.doc.ensures.doc ∙ same))

pub returns-in-Err : goal.returns-in-Err
returns-in-Err c =
    let text : IsTextOf c.args.text.now c.in-Some.tree = rw c.in-Some.is at c.in_ok-tree.ensures in
    let not : c.in-Err.field-0 ≢ items.OutOfMemory = search rules in
    faulty_document c.args.collection.now c.args.text.now c.in-Some.tree c.in-Err.field-0 text c.in-Err.ensures not
