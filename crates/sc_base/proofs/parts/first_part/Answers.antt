use Rattle.std.proofs.Common.{sym, ◌∙◌}
use Rattle.std.proofs.lemmas.List.{take_rest}
use Rattle.sc_base.proofs.Cuts.{cut_at, uncut}
use Rattle.sc_base.proofs.parts.first_part.Goals as goal

pub returns-in-Some-clause-parts : goal.returns-in-Some-clause-parts
returns-in-Some-clause-parts c = rw take_rest (cut_at c.args.mark c.args.bytes.now c.in-Some.at (sym c.in-Some.is ∙ c.place_of.ensures))

pub returns-in-None-clause-parts : goal.returns-in-None-clause-parts
returns-in-None-clause-parts c = uncut c.args.mark c.args.bytes.now (sym c.in-None.is ∙ c.place_of.ensures)
