-- What the status of a run of a server with a journal says of the faults of its listeners and of its disk.
use Rattle.std.proofs.Common.{◌≡◌, ℕ, Bool, true, List, sym, ◌∙◌, arith}
use Rattle.std.specs.declared.option.Option.{Option}
use Rattle.std.proofs.lemmas.List.Folds.{Any-from_list_any}
use Rattle.sc_catalog.specs.declared.entry.Entry.{Entry}
use Rattle.stacd.specs.Serving.{HasFailed}
use Rattle.stacd.specs.Keeping.{HasFailedDisk, HasKept, ServesKept, status_of_keeping}
use Rattle.stacd.proofs.Piped.{lone}
use Rattle.stacd.specs.declared.keeping.KeepEnd.{KeepEnd}
use Rattle.stacd.specs.declared.keeping.KeepEnd.TheVariants.{Done, ListenFault, BadRecord, WriteFault, DiskFault, OutOfMemory}

module _ {In Out N D : Type 0} (left : In → Option (List ℕ)) (ended : In → Bool) (faults : In → ℕ) (written : Out → Option (List ℕ)) (write_faults : Out → ℕ) (net_left net_back : N → Option (List (In × Out))) (net_faults : N → ℕ)
    (tells : D → Type 0) (reads : D → List ℕ) (may_leave : D → List ℕ → Type 0) (disk_faults : D → ℕ) where
  one_failed : (base : List ℕ) (most : ℕ) (nets back : List N) (disk disk' : Option D) (history : List Entry) → HasKept left ended faults written write_faults net_left net_back net_faults tells reads may_leave disk_faults base most nets back disk disk' true history
      → HasFailed net_faults nets back
  one_failed base most nets back disk disk' history h =
      let s = h.served in
      let found = Any-from_list_any (λ f. f) s.flags (sym s.failed_is) in
      record {
        place = found.0;
        within = omega (arith, found.2, s.many);
        rose = λ n. (s.each found.0 n lone found.1 (omega (arith, found.2, s.many))).cause (found.3 ∙ found.4);
      }

  module _ (base : List ℕ) (most : ℕ) (nets back : List N) (disk disk' : Option D) (old new : Option (List ℕ)) where
    abbrev Ran : KeepEnd → Type 0
    Ran end = ServesKept left ended faults written write_faults net_left net_back net_faults tells reads may_leave disk_faults end base most nets back disk disk' old new

    -- a listener failed where the status is 7
    pub keep_listener_failed : (end : KeepEnd) → Ran end → status_of_keeping end ≡ 7 → HasFailed net_faults nets back
    keep_listener_failed Done s e = absurd (omega (arith, e))
    keep_listener_failed ListenFault s e = one_failed base most nets back disk disk' s.0 s.2
    keep_listener_failed (BadRecord n) s e = absurd (omega (arith, e))
    keep_listener_failed WriteFault s e = absurd (omega (arith, e))
    keep_listener_failed DiskFault s e = absurd (omega (arith, e))
    keep_listener_failed OutOfMemory s e = absurd (omega (arith, e))

    -- the disk failed where the status is 8
    pub disk_failed : (end : KeepEnd) → Ran end → status_of_keeping end ≡ 8 → HasFailedDisk disk_faults disk disk'
    disk_failed Done s e = absurd (omega (arith, e))
    disk_failed ListenFault s e = absurd (omega (arith, e))
    disk_failed (BadRecord n) s e = absurd (omega (arith, e))
    disk_failed WriteFault s e = absurd (omega (arith, e))
    disk_failed DiskFault s e = s.refused
    disk_failed OutOfMemory s e = absurd (omega (arith, e))
