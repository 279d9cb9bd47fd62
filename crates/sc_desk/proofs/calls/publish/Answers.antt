use Rattle.std.proofs.Common.{rules, ◌≡◌, ◌∙◌, ◌++◌, ◌∷◌, [], ap, subst, sym}
use Rattle.sc_turn.specs.Passes.{pass_number}
use Rattle.sc_catalog.specs.Entries.{IsTaken, by, entry_of}
use Rattle.sc_desk.proofs.Passing.{taken_of, turn_of}
use Rattle.sc_desk.proofs.calls.publish.Goals as goal

pub returns-in-Ok-clause-ok : goal.returns-in-Ok-clause-ok
returns-in-Ok-clause-ok g c =
    let taken = taken_of c.number-number.result c.args.load c.enter-turn.result.value c.publish.new.self c.in-Ok.published c.in-Ok.ensures.ok in
    let number : c.number-number.result ≡ c.args.pass.now.number = search rules in
    subst (λ n. IsTaken n c.args.load c.leave.new.self.seat.me.0.seen c.in-Ok.published) number
    (subst (λ l. IsTaken c.number-number.result c.args.load l c.in-Ok.published) (sym c.leave.ensures.seen) taken)

pub returns-in-Ok-clause-took : goal.returns-in-Ok-clause-took
returns-in-Ok-clause-took g c =
    let p = c.pass.inside.pass in
    let old = c.enter-turn.result.value in
    let new = c.publish.new.self in
    let is = c.in-Ok.ensures.ok in
    let number : c.number-number.result ≡ pass_number p = search rules in
    let left : new.entries ≡ old.entries ++ entry_of (pass_number p) c.args.load ∷ [] = is.entries_are ∙ ap (λ n. old.entries ++ entry_of n c.args.load ∷ []) number in
    rw (← c.pass.view_is) (turn_of by (entry_of (pass_number p) c.args.load ∷ []) old.entries new.entries p c.enter-turn.new.self c.leave.new.self c.enter-turn.ensures.kept c.enter-turn.ensures.found c.leave.ensures.kept c.leave.ensures.seen c.leave.ensures.visits left, is.takes)
