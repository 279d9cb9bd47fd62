use Rattle.sc_history.specs.Content.{is_called}
use Rattle.std.proofs.Common.{◌≡◌, drop}
use Rattle.std.specs.Prelude.{find}
use Rattle.sc_shelf.proofs.collections.Collections.find.Given as goal

abbrev pub invariant-loop-collection : goal.invariant-loop-collection
invariant-loop-collection l = find (is_called l.id) (drop l.collection-index l.collection-items) ≡ find (is_called l.id) l.collection-items
