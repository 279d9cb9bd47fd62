use Rattle.std.proofs.Common.{◌≡◌, take}
use Rattle.sc_page.specs.ItemKey.{values_of}
use Rattle.sc_page.proofs.key.values_of.Given as goal

abbrev pub invariant-loop-key : goal.invariant-loop-key
invariant-loop-key l = l.values.items ≡ values_of (take l.key-index l.keys) l.item
