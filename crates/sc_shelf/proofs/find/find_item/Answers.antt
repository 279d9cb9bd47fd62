use Rattle.std.proofs.Common.{◌∙◌}
use Rattle.std.proofs.lemmas.List.Elements.{All-from_recursion}
use Rattle.sc_shelf.specs.Kept.{HasItsOwn}
use Rattle.sc_shelf.proofs.Finding.{found_in_run, run_own}
use Rattle.sc_shelf.proofs.find.find_item.Goals as goal

pub find_in_run-requires-clause-own : goal.find_in_run-requires-clause-own
find_in_run-requires-clause-own c = All-from_recursion HasItsOwn c.run_of.result.now (run_own c.args.collection.now c.args.parts.now c.run_of.result.now c.requires c.run_of.ensures)

pub returns : goal.returns
returns c = c.find_in_run.ensures ∙ found_in_run c.args.collection.now c.args.id.now c.args.parts.now c.run_of.result.now c.requires c.run_of.ensures
