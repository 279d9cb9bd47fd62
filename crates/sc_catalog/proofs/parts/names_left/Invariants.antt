use Rattle.std.proofs.Common.{◌≡◌, map, filter, take}
use Rattle.std.specs.Option.{is_some}
use Rattle.sc_history.specs.Part.{lookup}
use Rattle.sc_catalog.proofs.parts.names_left.Given as goal

abbrev pub invariant-loop-change : goal.invariant-loop-change
invariant-loop-change l = l.names.items ≡ filter (λ name. is_some (lookup name l.parts)) (map (λ change. change.name) (take l.change-index l.changes))
