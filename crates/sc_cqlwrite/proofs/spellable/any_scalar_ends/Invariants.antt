use Rattle.std.proofs.Common.{◌≡◌, drop}
use Rattle.std.specs.List.{list_any, flat_map}
use Rattle.sc_cqlwrite.specs.Spellable.{ends_in_backslash, scalar_texts}
use Rattle.sc_cqlwrite.proofs.spellable.any_scalar_ends.Given as goal

-- one of the scalars that are left decides
abbrev pub invariant-loop-scalar : goal.invariant-loop-scalar
invariant-loop-scalar l =
    list_any ends_in_backslash (flat_map scalar_texts (drop l.scalar-index l.scalars)) ≡ list_any ends_in_backslash (flat_map scalar_texts l.scalars)
