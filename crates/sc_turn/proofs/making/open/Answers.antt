use Rattle.std.proofs.Common.{arith, sym, ap, ◌∙◌, subst, List, [], ◌∷◌, ◌++◌, length}
use Rattle.std.specs.Prelude.{Option, Some}
use Rattle.atomic_table.specs.Table.{opening}
use Rattle.sc_turn.specs.Views.{maker}
use Rattle.sc_turn.specs.Rule.{Kept}
use Rattle.sc_turn.proofs.Cards.{opens}
use Rattle.sc_turn.proofs.making.open.Goals as goal

pub new-requires : goal.new-requires
new-requires g c =
    let items = c.push_reserved.ensures.items ∙ ap (λ l. l ++ Some c.args.value ∷ []) c.in-Ok.ensures.items in
    let base = g.V.Booked.history c.of.result.value in
    let is = c.from.ensures in
    let few = c.requires in
    let same = ap g.V.Booked.history (sym c.of.ensures) in
    subst (λ (l : List (Option g.row.V.Denot)). Kept g.V.Booked.history g.V.Booked.by c.from.result base (opening (0 ∷ 0 ∷ c.booked-length.result ∷ []) l (maker 0 base))) (sym items)
    (opens g.V.Booked.history g.V.Booked.by c.from.result base c.args.value c.booked-length.result (omega arith) same (c.booked-length.ensures ∙ ap length same))
