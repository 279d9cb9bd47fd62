use Rattle.std.proofs.Common.{rules, sym, ap, ◌∙◌, ◌∷◌}
use Rattle.std.specs.Prelude.{Some}
use Rattle.atomic_table.specs.Table.{rest}
use Rattle.sc_turn.proofs.pass.Pass.enter.Goals as goal

pub exchange-requires : goal.exchange-requires
exchange-requires g c = let h = c.wait_called.ensures.called.1 in
    let e = ap (λ m. m.1) h.1 in
    (search rules, (Some h.0, e ∙ ap (λ l. (0, Some h.0) ∷ rest l) (sym e)))
