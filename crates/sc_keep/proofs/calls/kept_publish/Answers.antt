use Rattle.std.proofs.Common.{rules, ◌≡◌, ◌<◌, ◌∙◌, ap, length, subst, sym}
use Rattle.sc_turn.specs.Passes.{pass_number}
use Rattle.sc_keep.proofs.Turning.{adds, never_rises}
use Rattle.sc_keep.proofs.calls.kept_publish.Goals as goal

pub returns-in-Ok : goal.returns-in-Ok
returns-in-Ok g c =
    let p = c.pass.inside.pass in
    let number : c.number-number.result ≡ pass_number p = search rules in
    rw (← c.pass.view_is) (adds c.args.load c.enter-turn.result.value.catalogue c.publish.new.self.catalogue p c.enter-turn.new.self c.leave.new.self
    c.enter-turn.ensures.kept c.enter-turn.ensures.found c.leave.ensures.kept c.leave.ensures.seen c.leave.ensures.visits c.number-number.result c.in-Ok.published number c.in-Ok.ensures.ok)

pub returns-in-Err-NotStored : goal.returns-in-Err-NotStored
returns-in-Err-NotStored g c =
    let p = c.pass.inside.pass in
    let number : c.number-number.result ≡ pass_number p = search rules in
    let waits = rw c.in-Err-NotStored.field-0-is at c.in-Err-NotStored.ensures.fault in
    let seen = c.leave-in-Err-NotStored.ensures.seen in
    let revision = waits.is.revision_is ∙ ap length (sym seen) in
    rw (← c.pass.view_is) (
      record {
        may = λ sure. never_rises g.D.Disk.faults _ _ sure waits.rose;
        adds = adds c.args.load c.enter-turn.result.value.catalogue c.publish.new.self.catalogue p c.enter-turn.new.self c.leave-in-Err-NotStored.new.self
            c.enter-turn.ensures.kept c.enter-turn.ensures.found c.leave-in-Err-NotStored.ensures.kept seen c.leave-in-Err-NotStored.ensures.visits c.number-number.result c.in-Err-NotStored.published number waits.is;
        fewer = subst (λ n. c.in-Err-NotStored.stored < n) revision waits.fewer;
      },
      revision,
    )
