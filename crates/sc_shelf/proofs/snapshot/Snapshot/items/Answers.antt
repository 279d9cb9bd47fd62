use Rattle.std.proofs.Common.{ap, ◌∙◌, ◌+◌, ◌≡◌, length}
use Rattle.sc_shelf.proofs.Finding.{err_anyway, within_all}
use Rattle.sc_shelf.proofs.snapshot.Snapshot.items.Goals as goal

pub returns-in_err-push_items-clause-most : goal.returns-in_err-push_items-clause-most
returns-in_err-push_items-clause-most g c =
    let p = c.part-item.result in
    let parts : c.as_slice-part-items.result.now ≡ c.args.self.now.parts = search in
    let most = within_all c.as_slice-part-items.result.now c.loop-part.part-index p c.args.steps.now c.loop-part.steps c.scan.new.steps c.loop-part-test.true c.part-item.is c.loop-part.invariant.1 (c.scan.ensures.steps ∙ ap (λ v. c.loop-part.steps + 1 + length v.items) c.version.ensures.version) in
    err_anyway _ (rw parts at most)
