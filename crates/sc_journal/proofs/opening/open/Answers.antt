use Rattle.std.proofs.Common.{List, ℕ, length, ap, sym, subst, ◌∙◌, rules}
use Rattle.sc_journal.specs.Format.{IsBroken}
use Rattle.sc_journal.specs.Journal.{Holds}
use Rattle.sc_journal.proofs.opening.open.Goals as goal

pub returns-in-Ok-clause-holds : goal.returns-in-Ok-clause-holds
returns-in-Ok-clause-holds g c = λ next.
    let opened = c.in-Ok.ensures.opened in
    subst (λ (rs : List (List ℕ)). Holds g.D.Disk.tells g.D.Disk.may_leave c.in-Ok.journal rs next) (sym (c.of.ensures ∙ opened.taken)) (opened.holds next)

pub returns-in-Err-BadRecord-clause-bad : goal.returns-in-Err-BadRecord-clause-bad
returns-in-Err-BadRecord-clause-bad g c =
    let stops = c.in-Err-BadRecord.ensures.bad c.in-Err-BadRecord.n (search rules) in
    stops.count_is ∙ ap (λ (rs : List (List ℕ)). length rs) (sym (c.of-in-Err-BadRecord.ensures ∙ stops.taken))

pub returns-in-Err-BadRecord-clause-broken : goal.returns-in-Err-BadRecord-clause-broken
returns-in-Err-BadRecord-clause-broken g c = λ n is t.
    let stops = c.in-Err-BadRecord.ensures.bad c.in-Err-BadRecord.n (search rules) in
    subst (IsBroken (g.D.Disk.reads c.args.disk)) (sym (c.of-in-Err-BadRecord.ensures ∙ stops.taken)) (stops.broken t)
