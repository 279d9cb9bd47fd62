use Rattle.std.specs.Arc.{arc_value}
use Rattle.std.proofs.Common.{◌≡◌, ◌≤◌, ◌∙◌, ap, arith, length, map, rules, subst, sym, take}
use Rattle.std.specs.Prelude.{All}
use Rattle.std.proofs.lemmas.List.{length-map, take_all}
use Rattle.std.proofs.lemmas.List.Elements.{All-nil}
use Rattle.sc_bounds.specs.Sets.{IsHull, IsWidened, hull, join_of, only}
use Rattle.sc_item.specs.Feature.{IsKept}
use Rattle.sc_part.specs.Scan.{reach, shared}
use Rattle.sc_part.proofs.Hulls.{each_more, hull_nothing, hull_push, reaches_more, value_push}
use Rattle.sc_part.proofs.hull.hull_of_items.Goals as goal

pub loop-item-init : goal.loop-item-init
loop-item-init c = record { least = rw c.empty-bounds.ensures hull_nothing; kept = All-nil IsKept; value = c.empty-bounds.ensures }

pub loop-item-preserved : goal.loop-item-preserved
loop-item-preserved c =
    let more = reaches_more c.args.items.now c.loop-item.item-index c.item-item.result c.loop-item-test.true c.item-item.is in
    let here : c.reach_of.result ≡ reach (arc_value c.item-item.result) = search rules in
    let own : IsKept (arc_value c.item-item.result) = search rules in
    let before = take c.loop-item.item-index (map reach (shared c.args.items.now)) in
    let wide = subst (IsWidened c.widen-bounds.result c.loop-item.bounds) here c.widen-bounds.ensures.widened in
    let value = c.widen-bounds.ensures.value ∙ ap (λ r. join_of c.loop-item.bounds (only r)) here in
    record {
      least = subst (IsHull c.widen-bounds.result) (sym more) (hull_push c.loop-item.bounds c.widen-bounds.result before (reach (arc_value c.item-item.result)) c.loop-item.invariant.least wide);
      kept = each_more IsKept c.args.items.now c.loop-item.item-index c.item-item.result c.loop-item-test.true c.item-item.is c.loop-item.invariant.kept own;
      value = value_push c.loop-item.bounds c.widen-bounds.result before (reach (arc_value c.item-item.result)) c.loop-item.invariant.value value ∙ ap hull (sym more);
    }

pub returns-clause-kept : goal.returns-clause-kept
returns-clause-kept c =
    let items = shared c.args.items.now in
    let whole : length items ≤ c.loop-item.item-index = omega (arith, c.loop-item-test.false, length-map c.args.items.now arc_value) in
    subst (All IsKept) (take_all c.loop-item.item-index items whole) c.loop-item.invariant.kept
