use Rattle.std.proofs.Common.{◌≡◌, ◌++◌, ◌∙◌, [], sym}
use Rattle.std.proofs.lemmas.List.{append-nil}
use Rattle.sc_turn.specs.Passes.{pass_number, pass_seen}
use Rattle.sc_catalog.specs.Entries.{by}
use Rattle.sc_desk.proofs.Passing.{tight_found, turn_of}
use Rattle.sc_desk.proofs.calls.put_tight.Goals as goal

pub install-requires : goal.install-requires
install-requires g c =
    tight_found (pass_number c.pass.inside.pass) (pass_seen c.pass.inside.pass) c.enter-turn.result.value.entries c.args.tight.now c.enter-turn.ensures.found (rw (← c.pass.view_is) at c.requires)

pub returns-in-Ok-clause-turn : goal.returns-in-Ok-clause-turn
returns-in-Ok-clause-turn g c =
    let old = c.enter-turn.result.value in
    let new = c.install.new.self in
    let left : new.entries ≡ old.entries ++ [] = c.in-Ok.ensures.ok.entries_are ∙ sym (append-nil old.entries) in
    rw (← c.pass.view_is) (turn_of by [] old.entries new.entries c.pass.inside.pass c.enter-turn.new.self c.leave.new.self c.enter-turn.ensures.kept c.enter-turn.ensures.found c.leave.ensures.kept c.leave.ensures.seen c.leave.ensures.visits left)
