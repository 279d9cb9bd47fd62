use Rattle.std.proofs.Common.{rules, to_z-of_z, FitsSigned, w32, map, take, []}
use Rattle.std.specs.Arc.{arc_value}
use Rattle.std.proofs.lemmas.List.Elements.{recursion_from_All}
use Rattle.sc_load.specs.Load.{IsItemOf}
use Rattle.sc_catalog.proofs.Steps.{arrived, item_at, items_more}
use Rattle.sc_catalog.proofs.groups.add_arrivals.Goals as goal

pub loop-item-preserved : goal.loop-item-preserved
loop-item-preserved c = λ items start.
    let fits : FitsSigned w32 c.key_in-key.result = search rules in
    let own = item_at (IsItemOf c.args.collection.now) c.args.come.now c.loop-item.item-index c.item-item.result (recursion_from_All (IsItemOf c.args.collection.now) (map arc_value c.args.come.now) c.requires) c.loop-item-test.true c.item-item.is in
    rw (items_more c.args.come.now c.loop-item.item-index c.item-item.result c.loop-item-test.true c.item-item.is)
    (arrived items c.args.collection.now c.args.cut [] (map arc_value (take c.loop-item.item-index c.args.come.now)) c.loop-item.groups c.add_arrival.new.groups (arc_value c.item-item.result) c.key_in-key.result
    (λ k. (rw c.deref.ensures at c.key_in-key.ensures) c.args.collection.now k own own.collection_is) (rw (to_z-of_z fits) at c.in_ok-add_arrival.ensures.come) c.in_ok-add_arrival.ensures.gone (rw (to_z-of_z fits) at c.in_ok-add_arrival.ensures.some) (c.loop-item.invariant items start))
