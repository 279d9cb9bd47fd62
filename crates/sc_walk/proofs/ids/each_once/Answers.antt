use Rattle.std.proofs.Common.{◌∙◌, ◌+◌, ◌++◌, ◌∷◌, [], ap, subst, sym, take}
use Rattle.std.proofs.lemmas.List.{take_more}
use Rattle.sc_eval.specs.Names.{AreSameNames}
use Rattle.sc_eval.proofs.Tables.{one_more}
use Rattle.sc_walk.specs.Ids.{AreOnce}
use Rattle.sc_walk.proofs.Naming.{push_once, told_new}
use Rattle.sc_walk.proofs.ids.each_once.Goals as goal

pub loop-id-preserved : goal.loop-id-preserved
loop-id-preserved c =
    let ids = c.args.ids.now in
    let i = c.loop-id.id-index in
    let x = c.id-item.result in
    let lt = c.loop-id-test.true in
    let all = c.loop-id.invariant in
    let names = take i ids in
    let was = told_new (λ name. name.now) c.as_str.result c.loop-id.seen.keys names x _ c.in_ok-is_new.ensures.added c.as_str.ensures all.0 in
    let p = push_once c.loop-id.once.items names x _ was all.1 all.2 in
    let next = sym (take_more ids i x lt ∙ ap (λ t. names ++ t ∷ []) (sym c.id-item.is)) in (
      one_more (λ name. name.now) _ _ _ _ c.in_ok-is_new.ensures.keys c.in_ok-is_new.ensures.added ids i x lt c.id-item.is c.as_str.ensures all.0,
      subst AreOnce (sym c.in_ok-push_new.ensures) p.0,
      subst (λ l. AreSameNames l (take (i + 1) ids)) (sym c.in_ok-push_new.ensures) (subst (AreSameNames _) next p.1),
    )
