use Rattle.std.proofs.Common.{rules, arith, sym, ap, ◌∙◌, subst, ◌∷◌, length}
use Rattle.std.specs.Prelude.{Some}
use Rattle.atomic_table.specs.Table.{rest}
use Rattle.sc_turn.specs.declared.view.View.{View}
use Rattle.sc_turn.specs.History.{MayFollow}
use Rattle.sc_turn.proofs.Histories.{may_longer}
use Rattle.sc_turn.proofs.Turns.{raises, passes}
use Rattle.sc_turn.proofs.pass.Pass.leave.Goals as goal

pub fetch_add-requires : goal.fetch_add-requires
fetch_add-requires g c =
    let swapped = c.exchange-nothing.ensures.3 in
    let words = c.args.self.now.desk.now.sized.0 in
    let more = may_longer g.V.Booked.by _ _ _ c.requires.follows in
    let counted = c.args.self.now.counted in
    let left = c.booked-seen.ensures in
    let fits = c.booked-seen.type_inv in
    let saw = ap (λ m. length m.0.seen) swapped in (
      search rules,
      omega arith,
      raises _ _ _ _ _ _ _ c.args.turn.value _ _ (ap (λ m. m.0.role) swapped ∙ c.requires.within.2.1) (ap (λ m. m.1) swapped ∙ ap (λ l. (0, Some c.args.turn.value) ∷ rest l) c.requires.within.1)
          (subst (λ (w : View g.row.V-Entry.Denot). MayFollow g.V.Booked.by w.number w.seen (g.V.Booked.history c.args.turn.value)) (sym (ap (λ m. m.0) swapped)) c.requires.follows) (omega arith) (omega arith),
    )

pub fetch_add-passed-requires : goal.fetch_add-passed-requires
fetch_add-passed-requires g c =
    let swapped = c.exchange-nothing.ensures.3 in
    let words = c.args.self.now.desk.now.sized.0 in
    let holds = ap (λ m. m.1) swapped ∙ ap (λ l. (0, Some c.args.turn.value) ∷ rest l) c.requires.within.1 in
    let raised = c.fetch_add.ensures.2 c.args.turn.value holds in (
      search rules,
      omega arith,
      passes _ _ _ _ _ _ _ c.args.turn.value _ (ap (λ m. m.0.role) raised ∙ ap (λ m. m.0.role) swapped ∙ c.requires.within.2.1) (ap (λ m. m.1) raised ∙ holds) (ap (λ m. m.0.seen) raised),
    )
