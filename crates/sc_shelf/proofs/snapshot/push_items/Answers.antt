use Rattle.std.proofs.Common.{◌≡◌, ◌++◌, ◌∷◌, [], ◌∙◌, ap, append_assoc, rules, sym, take}
use Rattle.std.specs.Arc.{arc_value}
use Rattle.std.proofs.lemmas.List.{map-append}
use Rattle.sc_part.specs.Scan.{shared}
use Rattle.sc_shelf.proofs.Hulling.{taken}
use Rattle.sc_shelf.proofs.snapshot.push_items.Goals as goal

pub loop-item-preserved : goal.loop-item-preserved
loop-item-preserved c =
    let old = shared c.args.all.now.items in
    let before = take c.loop-item.item-index (shared c.args.items.now) in
    let same : arc_value c.in_ok-try_clone.field-0 ≡ arc_value c.item-item.result = search rules in
    ap shared c.in_ok-push.ensures.items ∙ map-append arc_value c.loop-item.all.items (c.in_ok-try_clone.field-0 ∷ [])
    ∙ ap (λ l. l ++ arc_value c.in_ok-try_clone.field-0 ∷ []) c.loop-item.invariant ∙ ap (λ x. (old ++ before) ++ x ∷ []) same
    ∙ append_assoc old before (arc_value c.item-item.result ∷ []) ∙ ap (λ l. old ++ l) (sym (taken c.args.items.now c.loop-item.item-index c.item-item.result c.loop-item-test.true c.item-item.is))
