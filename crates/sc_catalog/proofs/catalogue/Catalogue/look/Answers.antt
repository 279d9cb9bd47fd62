use Rattle.std.specs.Prelude.{IfSome}
use Rattle.std.proofs.lemmas.Result.{IfOk-weaker}
use Rattle.sc_shelf.specs.Ticket.{hull_at}
use Rattle.sc_catalog.specs.Entries.{IsLookOf, IsTightOf}
use Rattle.sc_catalog.proofs.Views.{look_stands}
use Rattle.sc_catalog.proofs.Hulls.{look_tight}
use Rattle.sc_catalog.proofs.catalogue.Catalogue.look.Goals as goal

pub returns-clause-stands : goal.returns-clause-stands
returns-clause-stands c =
    let i = c.self.inside in
    let name = c.args.name.now in
    rw (← c.self.view_is) (IfOk-weaker c.look.result _ (IsLookOf i.history.items name)
    (λ ticket e. look_stands i.history.items i.bytes i.collections i.parts i.index c.self.invariant name ticket e) c.look.ensures)

pub returns-clause-hull : goal.returns-clause-hull
returns-clause-hull c =
    let i = c.self.inside in
    let name = c.args.name.now in
    rw (← c.self.view_is) (IfOk-weaker c.look.result _ (λ ticket. IfSome ticket (λ t. IsTightOf i.history.items (hull_at t)))
    (λ ticket e. look_tight i.history.items name ticket (look_stands i.history.items i.bytes i.collections i.parts i.index c.self.invariant name ticket e)) c.look.ensures)
