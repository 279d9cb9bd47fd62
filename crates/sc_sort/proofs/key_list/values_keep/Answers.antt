use Rattle.std.proofs.Common.{◌+◌, ◌∷◌, [], ◌++◌, take, ap, sym, subst, ◌∙◌}
use Rattle.std.specs.Prelude.{All}
use Rattle.std.proofs.lemmas.List.{take_more, take_all}
use Rattle.std.proofs.lemmas.List.Elements.{All-push}
use Rattle.sc_sort.specs.Keys.{IsKept}
use Rattle.sc_sort.proofs.key_list.values_keep.Goals as goal

pub loop-value-preserved : goal.loop-value-preserved
loop-value-preserved c =
    let values = c.args.values.now in
    let i = c.loop-value.value-index in
    subst (All IsKept) (ap (λ y. take i values ++ y ∷ []) c.value-item.is ∙ sym (take_more values i _ c.loop-value-test.true))
    (All-push IsKept (take i values) c.value-item.result c.loop-value.invariant c.keeps.ensures)

pub returns : goal.returns
returns c = subst (All IsKept) (take_all c.loop-value.value-index c.args.values.now c.loop-value-test.false) c.loop-value.invariant
