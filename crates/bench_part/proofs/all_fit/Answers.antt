use Rattle.std.specs.Arc.{arc_value}
use Rattle.std.proofs.Common.{◌≡◌, ◌∙◌, ap, arith, rules, subst, sym}
use Rattle.std.proofs.lemmas.List.{get_or-map, length-map}
use Rattle.std.proofs.lemmas.List.Elements.{AllWithin-more, AllWithin-none}
use Rattle.sc_part.specs.Scan.{Fits, shared}
use Rattle.bench_part.proofs.all_fit.Goals as goal

pub loop-item-init : goal.loop-item-init
loop-item-init c = AllWithin-none (Fits c.args.name.now) (shared c.args.items.now) 0

pub loop-item-preserved : goal.loop-item-preserved
loop-item-preserved c =
    let fit : Fits c.args.name.now (arc_value c.item-item.result) = search rules in
    AllWithin-more (Fits c.args.name.now) (shared c.args.items.now) 0 c.loop-item.item-index c.loop-item.invariant
    (λ d. subst (Fits c.args.name.now) (sym (get_or-map arc_value c.args.items.now c.loop-item.item-index c.item-item.result d c.loop-item-test.true ∙ ap arc_value (sym c.item-item.is))) fit)

pub returns : goal.returns
returns c = λ _ k d lt.
    let size = length-map c.args.items.now arc_value in
    c.loop-item.invariant k d (omega arith) (omega (arith, lt, size))
