use Rattle.std.proofs.Common.{◌≡◌}
use Rattle.sc_turn.specs.declared.view.Role.TheVariants.{Drawn}
use Rattle.sc_turn.specs.Views.{in_role}
use Rattle.sc_turn.proofs.waiting.wait_called.Given as goal

abbrev pub invariant-loop : goal.invariant-loop
invariant-loop g l = Unit {0}

abbrev pub invariant-loop-2 : goal.invariant-loop-2
invariant-loop-2 g l = let old = l.fn.seat in
    record {
      same : (l.seat.table_id ≡ old.table_id) × (l.seat.id ≡ old.id);
      drawn : l.seat.me ≡ (in_role old.me.0 (Drawn l.ticket), old.me.1);
    }
