-- What the status of a run of the server says of the faults of its listeners.
use Rattle.std.proofs.Common.{◌≡◌, ℕ, Bool, true, List, sym, ◌∙◌, arith}
use Rattle.std.specs.declared.option.Option.{Option}
use Rattle.std.proofs.lemmas.List.Folds.{Any-from_list_any}
use Rattle.sc_catalog.specs.declared.entry.Entry.{Entry}
use Rattle.stacd.specs.Serving.{HasFailed, HasServed, Serves, status_of_serving}
use Rattle.stacd.proofs.Piped.{lone}
use Rattle.stacd.specs.declared.serving.ServeEnd.{ServeEnd}
use Rattle.stacd.specs.declared.serving.ServeEnd.TheVariants.{Done, ListenFault, WriteFault, OutOfMemory}

module _ {In Out N : Type 0} (left : In → Option (List ℕ)) (ended : In → Bool) (faults : In → ℕ) (written : Out → Option (List ℕ)) (write_faults : Out → ℕ) (net_left net_back : N → Option (List (In × Out))) (net_faults : N → ℕ) where
  one_failed : (base : List ℕ) (most count : ℕ) (nets back : List N) (history : List Entry) → HasServed left ended faults written write_faults net_left net_back net_faults base most count nets back true history → HasFailed net_faults nets back
  one_failed base most count nets back history h =
      let s = h.served in
      let found = Any-from_list_any (λ f. f) s.flags (sym s.failed_is) in
      record {
        place = found.0;
        within = omega (arith, found.2, s.many);
        rose = λ n. (s.each found.0 n lone found.1 (omega (arith, found.2, s.many))).cause (found.3 ∙ found.4);
      }

  -- a listener failed where the status is 7
  pub listener_failed : (end : ServeEnd) (base : List ℕ) (most count : ℕ) (nets back : List N) (old new : Option (List ℕ))
      → Serves left ended faults written write_faults net_left net_back net_faults end base most count nets back old new → status_of_serving end ≡ 7 → HasFailed net_faults nets back
  listener_failed Done base most count nets back old new s e = absurd (omega (arith, e))
  listener_failed ListenFault base most count nets back old new s e = one_failed base most count nets back s.0 s.2
  listener_failed WriteFault base most count nets back old new s e = absurd (omega (arith, e))
  listener_failed OutOfMemory base most count nets back old new s e = absurd (omega (arith, e))
