use Rattle.std.proofs.Common.{sym, ap, ◌∙◌}
use Rattle.std.specs.Arc.{arc_value}
use Rattle.std.proofs.lemmas.List.{take-map}
use Rattle.sc_page.specs.Search.{shared}
use Rattle.sc_page.proofs.first.cut.Goals as goal

pub returns-clause-items : goal.returns-clause-items
returns-clause-items c = ap shared (c.of-2.ensures ∙ c.truncate.ensures.items) ∙ sym (take-map arc_value c.args.limit c.args.items.items)
