use Rattle.std.proofs.Common.{sym, ap, ◌∙◌}
use Rattle.sc_http.proofs.Steps.{none_taken, held_same}
use Rattle.sc_http.proofs.intake.Intake.next_request.Goals as goal

pub returns-in-None-clause-next : goal.returns-in-None-clause-next
returns-in-None-clause-next g c =
    let next = rw c.in-None.is at c.in_ok-request.ensures.next in
    let none = none_taken _ _ _ _ _ _ next.0 next.1 in
    let seen = c.self.view_is in
    let held = sym (c.settle-self-inside.ensures.kept ∙ ap (λ z. z.bytes) seen) ∙ none.0 in
    (held, held_same _ _ (next.0 ∙ sym held) (none.1 ∙ ap (λ z. z.taken) seen), none.2, next.2)
