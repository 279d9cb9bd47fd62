use Rattle.std.proofs.Common.{sym, ap, ◌∙◌, length}
use Rattle.sc_serve.proofs.notifying.NotifyingPassDesk.seen.Goals as goal

pub returns : goal.returns
returns g c begun now stands = c.seen.ensures ∙ ap (λ v. length v.seen) (sym stands.2)
