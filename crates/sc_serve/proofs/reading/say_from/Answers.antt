use Rattle.std.proofs.Common.{sym, ◌∙◌}
use Rattle.std.proofs.lemmas.Result.{IfOk-weaker}
use Rattle.sc_serve.proofs.Replying.{says_behind, says_there}
use Rattle.sc_serve.proofs.reading.say_from.Goals as goal

pub returns-then-states_later : goal.returns-then-states_later
returns-then-states_later g c entries is =
    IfOk-weaker c.behind.result _ _ (λ said e. says_behind c.args.base.now c.args.work.now entries c.args.seen c.revision-revision.result said (c.revision-revision.ensures.revision ∙ is.revision_is)
    (sym c.states_later.ensures ∙ c.if-states_later.true) e) c.behind.ensures

pub returns : goal.returns
returns g c entries is =
    IfOk-weaker c.say.result _ _ (λ said s. says_there c.args.base.now c.args.work.now entries c.args.seen c.revision-revision.result said (c.revision-revision.ensures.revision ∙ is.revision_is)
    (sym c.states_later.ensures ∙ c.if-states_later.false) s) (c.say.ensures entries is)
