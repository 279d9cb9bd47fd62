use Rattle.std.proofs.Common.{◌≡◌, List, length}
use Rattle.sc_tighten.specs.declared.outcome.Outcome.{Outcome}
use Rattle.sc_tighten.specs.Work.{tightener, WorkTurns, counted, no_turn}
use Rattle.sc_tighten.proofs.turns.work.Given as goal

abbrev pub invariant-loop : goal.invariant-loop
invariant-loop g l =
    record {
      outcomes : List Outcome;
      are_so_many : length outcomes ≡ l.counter;
      are_taken : WorkTurns outcomes (tightener l.fn.pass l.fn.notices) (tightener l.pass l.notices);
      count_is : l.count ≡ counted outcomes no_turn;
    }
