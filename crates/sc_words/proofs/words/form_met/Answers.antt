use Rattle.std.proofs.Common.{◌∙◌}
use Rattle.sc_words.proofs.Ends.{met}
use Rattle.sc_words.proofs.words.form_met.Goals as goal

pub returns-in-Some : goal.returns-in-Some
returns-in-Some c = c.form_in.ensures ∙ met c.args.matches.now _ _ c.in-Some.ensures.name c.in-Some.ensures.rows
