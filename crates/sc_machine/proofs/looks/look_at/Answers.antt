use Rattle.std.proofs.Common.{ℕ, sym, subst, to_z-of_z, w32, FitsSigned, rules}
use Rattle.std.specs.Prelude.{IfSome}
use Rattle.sc_shelf.specs.Ticket.{hull_at}
use Rattle.sc_catalog.specs.Entries.{IsLookOf, IsTightOf}
use Rattle.sc_outcome.specs.declared.outcome.Outcome.TheVariants as gives
use Rattle.sc_machine.specs.Looks.{LooksAt}
use Rattle.sc_machine.specs.Inside.{IsPartAt, state_of}
use Rattle.sc_machine.proofs.Looking.{look_empty, look_nowhere, look_taken}
use Rattle.sc_machine.proofs.Seen.{hulls_more}
use Rattle.sc_machine.proofs.looks.look_at.Goals as goal

pub returns-in_default-clause-told : goal.returns-in_default-clause-told
returns-in_default-clause-told c snaps =
    let fits : FitsSigned w32 c.args.key = search rules in
    look_nowhere c.args.catalogue.now snaps c.args.name c.args.collection c.args.key c.args.tickets.now c.in_ok-part.field-0 c.in_default.is (rw (to_z-of_z fits) at c.in_ok-part.ensures)

pub returns-in_ok-insert-in-Some-2-clause-told : goal.returns-in_ok-insert-in-Some-2-clause-told
returns-in_ok-insert-in-Some-2-clause-told c snaps =
    let fits : FitsSigned w32 c.args.key = search rules in
    let at : IsPartAt c.args.catalogue.now.entries c.args.collection c.args.key c.in_ok-part.field-0 = rw (to_z-of_z fits) at c.in_ok-part.ensures in
    let is = subst (IsPartAt c.args.catalogue.now.entries c.args.collection c.args.key) c.in-Some.is at in
    let look = subst (IsLookOf c.args.catalogue.now.entries c.in-Some.part) c.in-Some-2.is c.in_ok-ticket.ensures.stands in
    subst (λ (n : ℕ). LooksAt c.args.name c.args.collection c.args.key (state_of c.args.catalogue.now snaps c.args.tickets.now) (state_of c.args.catalogue.now snaps c.insert.new.self) (gives.Stamp n)) (sym c.stamp-stamp.ensures)
    (look_taken c.args.catalogue.now snaps c.args.name c.args.collection c.args.key c.in-Some.part is c.args.tickets.now c.insert.new.self c.in-Some-2.ticket c.tighten.result look c.tighten.ensures c.in_ok-insert-in-Some-2.ensures.updates.0)

pub returns-in_ok-insert-in-Some-2-clause-kept : goal.returns-in_ok-insert-in-Some-2-clause-kept
returns-in_ok-insert-in-Some-2-clause-kept c snaps =
    let hull = subst (λ o. IfSome o (λ ticket. IsTightOf c.args.catalogue.now.entries (hull_at ticket))) c.in-Some-2.is c.in_ok-ticket.ensures.hull in
    hulls_more c.args.catalogue.now.entries snaps c.args.tickets.now c.insert.new.self c.args.name c.tighten.result (subst (IsTightOf c.args.catalogue.now.entries) (sym c.tighten.ensures) hull) c.in_ok-insert-in-Some-2.ensures.updates.0

pub returns-in-None-clause-told : goal.returns-in-None-clause-told
returns-in-None-clause-told c snaps =
    let fits : FitsSigned w32 c.args.key = search rules in
    let at : IsPartAt c.args.catalogue.now.entries c.args.collection c.args.key c.in_ok-part.field-0 = rw (to_z-of_z fits) at c.in_ok-part.ensures in
    let is = subst (IsPartAt c.args.catalogue.now.entries c.args.collection c.args.key) c.in-Some.is at in
    let look = subst (IsLookOf c.args.catalogue.now.entries c.in-Some.part) c.in-None.is c.in_ok-ticket.ensures.stands in
    look_empty c.args.catalogue.now snaps c.args.name c.args.collection c.args.key c.in-Some.part is c.args.tickets.now look
