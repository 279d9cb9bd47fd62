use Rattle.std.proofs.Common.{sym, ◌∙◌, to_z-of_z, w32, FitsSigned, rules}
use Rattle.sc_machine.proofs.Seen.{each_ok}
use Rattle.sc_machine.proofs.Looking.{look_there, look_free}
use Rattle.sc_machine.proofs.looks.take_look.Goals as goal

pub returns-then-contains_key-clause-told : goal.returns-then-contains_key-clause-told
returns-then-contains_key-clause-told c =
    each_ok _ _ (λ outcome told snaps. look_there c.args.catalogue.now snaps c.args.name c.args.collection c.args.key c.args.tickets.now outcome (sym c.contains_key.ensures ∙ c.if-contains_key.true) told) c.name_taken.result c.name_taken.ensures

pub returns-clause-told : goal.returns-clause-told
returns-clause-told c =
    let fits : FitsSigned w32 c.args.key = search rules in
    each_ok _ _ (λ outcome looks snaps. look_free c.args.catalogue.now snaps c.args.name c.args.collection c.args.key c.args.tickets.now c.look_at.new.tickets outcome (sym c.contains_key.ensures ∙ c.if-contains_key.false) (rw (to_z-of_z fits) at looks snaps)) c.look_at.result c.look_at.ensures.told
