use Rattle.std.proofs.Common.{◌≡◌, ◌∷◌, [], map, take, sym, subst, rules}
use Rattle.std.specs.Arc.{arc_value}
use Rattle.std.proofs.lemmas.List.Elements.{All-nil}
use Rattle.sc_item.specs.Feature.{IsKept}
use Rattle.sc_kept.specs.Record.{AddsFields, document}
use Rattle.sc_kept.proofs.Splitting.{adds_both, adds_none}
use Rattle.sc_kept.proofs.Telling.{documents_push, kept_push}
use Rattle.sc_kept.proofs.sealing.put_documents.Goals as goal

pub loop-item-init : goal.loop-item-init
loop-item-init c = record { fields = adds_none c.args.out.now.items; kept = All-nil IsKept }

pub loop-item-preserved : goal.loop-item-preserved
loop-item-preserved c =
    let i = c.loop-item.item-index in
    let items = c.args.items.now in
    let x = c.item-item.result in
    let text : c.doc.result.now ≡ (arc_value x).doc = search rules in
    let own : IsKept (arc_value x) = search rules in
    record {
      fields = subst (AddsFields c.args.out.now.items c.put_field.new.out.items) (sym (documents_push arc_value items i x c.loop-item-test.true c.item-item.is c.doc.result.now text))
          (adds_both c.args.out.now.items c.loop-item.out.items c.put_field.new.out.items (map document (map arc_value (take i items))) (c.doc.result.now ∷ []) c.loop-item.invariant.fields c.in_ok-put_field.ensures);
      kept = kept_push arc_value items i x c.loop-item-test.true c.item-item.is c.loop-item.invariant.kept own;
    }
