use Rattle.std.proofs.Common.{sym, ap, ◌∙◌, length}
use Rattle.sc_serve.proofs.lone.LoneDeskDeskUnit.seen.Goals as goal

pub returns : goal.returns
returns c begun now stands = c.revision.ensures.revision ∙ ap length (sym stands.seen_is)
