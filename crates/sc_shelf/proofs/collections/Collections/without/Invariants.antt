use Rattle.sc_history.specs.Content.{is_called}
use Rattle.std.proofs.Common.{◌≡◌, filter, not, take}
use Rattle.sc_shelf.proofs.collections.Collections.without.Given as goal

abbrev pub invariant-loop-collection : goal.invariant-loop-collection
invariant-loop-collection l = l.new.items ≡ filter (λ c. not (is_called l.id c)) (take l.collection-index l.collection-items)
