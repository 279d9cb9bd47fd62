use Rattle.std.proofs.Common.{List, ℕ, [], ◌∷◌, ◌++◌, Some, sym, ap, ◌∙◌}
use Rattle.sc_json.specs.Views.{text_of}
use Rattle.sc_geom.proofs.Lists.{all_read_stops}
use Rattle.sc_geom.proofs.Steps.{read_more}
use Rattle.sc_query.proofs.names.texts_in.Goals as goal

pub returns-in-None : goal.returns-in-None
returns-in-None c = sym (all_read_stops text_of c.args.values.now c.loop-value.value-index c.value-item.result c.loop-value-test.true c.value-item.is (sym c.in-None.ensures))

pub loop-value-preserved : goal.loop-value-preserved
loop-value-preserved c =
    read_more text_of c.args.values.now c.loop-value.value-index c.value-item.result c.loop-value.texts.items c.in-Some.text.now c.loop-value-test.true c.value-item.is c.loop-value.invariant (sym c.in-Some.ensures)
    ∙ ap Some (ap (λ (text : List ℕ). c.loop-value.texts.items ++ text ∷ []) (sym c.in_ok-try_clone-in-Some.ensures) ∙ sym c.in_ok-push-in-Some.ensures.items)
