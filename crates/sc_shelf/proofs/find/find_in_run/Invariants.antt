use Rattle.sc_history.specs.Content.{item_in}
use Rattle.sc_shelf.specs.Kept.{all_items}
use Rattle.std.proofs.Common.{◌≡◌, drop}
use Rattle.sc_shelf.proofs.find.find_in_run.Given as goal

abbrev pub invariant-loop-part : goal.invariant-loop-part
invariant-loop-part l = item_in (all_items (drop l.part-index l.run)) l.collection l.id ≡ item_in (all_items l.run) l.collection l.id
