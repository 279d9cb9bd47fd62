use Rattle.std.proofs.Common.{◌∙◌, ◌++◌, ap, ap₂, find, sym}
use Rattle.std.specs.Option.{option_to_list}
use Rattle.std.specs.Str.{bytes_eq}
use Rattle.sc_item.specs.Feature.{Feature}
use Rattle.sc_walk.proofs.Naming.{looked_up_next}
use Rattle.sc_walk.proofs.ids.find_each.Goals as goal

pub loop-id-preserved : goal.loop-id-preserved
loop-id-preserved c =
    let items = c.args.version.now.items in
    let found = c.find_id.ensures ∙ ap (λ id. find (λ (item : Feature). bytes_eq item.id id) items) c.id.view_is in
    c.in_ok-push_found.ensures ∙ ap₂ (λ l o. l ++ option_to_list o) c.loop-id.invariant found
    ∙ sym (looked_up_next c.args.ids.now items c.loop-id.id-index c.id-item.result c.loop-id-test.true c.id-item.is)
