use Rattle.std.proofs.Common.{sym, ◌∙◌}
use Rattle.sc_serve.proofs.Replying.{no_end_told}
use Rattle.sc_serve.proofs.answering.ApiClerkSteps.refuse.Goals as goal

pub returns-in-None : goal.returns-in-None
returns-in-None g c begun now stands = no_end_told c.args.end.now _ (sym c.in-None.is ∙ c.in_ok-said.ensures)
