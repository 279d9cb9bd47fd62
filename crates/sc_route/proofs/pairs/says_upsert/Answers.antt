use Rattle.std.proofs.Common.{◌∙◌, ap, nat_eq}
use Rattle.std.specs.List.{find}
use Rattle.std.specs.Cmp.Lexicographic.{pointwise}
use Rattle.sc_expr.specs.declared.select.Pair.{Pair}
use Rattle.sc_route.specs.Pairs.{is_true}
use Rattle.sc_route.proofs.pairs.says_upsert.Goals as goal

pub returns : goal.returns
returns c =
    let named = ap (λ name. find (λ (pair : Pair). pointwise nat_eq pair.name name) c.args.pairs.now) c.upsert_name.ensures in
    c.is_true.ensures ∙ ap is_true (c.pair_named.ensures ∙ named)
