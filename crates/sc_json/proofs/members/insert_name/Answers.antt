use Rattle.std.proofs.Common.{arith}
use Rattle.std.proofs.lemmas.Grind.{common_steps}
use Rattle.std.proofs.lemmas.List.Folds.{list_any-append}
use Rattle.std.specs.Cmp.Lexicographic.{texts_ties}
use Rattle.sc_json.proofs.members.insert_name.Goals as goal

pub returns : goal.returns
returns c = λ q. grind (arith, common_steps, list_any-append, texts_ties, c.requires q, c.in_ok-insert.ensures.updates.0 q, c.in_ok-name.ensures)
