-- What opening leaves of a disk, step by step.
use Rattle.std.proofs.Common.{◌≡◌, inl, inr, ℕ, ◌*◌, ◌≤◌, List, [], ◌∷◌, ◌++◌, length, drop, refl, sym, ◌∙◌, ap, subst, arith, length-append, take-append-drop}
use Rattle.sc_journal.specs.Disk.{Torn, TornFrom, Within, Same, Only, Written, Gains, LeavesOnly, Observed}
use Rattle.sc_journal.specs.Format.{framed, frames, AllFit, IsClosed, HasRecords, SameRecords}
use Rattle.sc_journal.proofs.Files.{length-counted}
use Rattle.sc_journal.proofs.Lists.{one_records}
use Rattle.sc_journal.proofs.Tears.{started, goes_on, both, weaker}

-- ---- files

pub records_kept : (files : List ℕ → Type 0) → Within files (SameRecords files)
records_kept files file is = (file, is, λ records has. has)

-- a short file has no records, whatever stands in it
short_has : (file other : List ℕ) (records : List (List ℕ)) → length file ≤ 1 → length other ≤ 1 → HasRecords file records → HasRecords other records
short_has file other records short shorter has = inl (shorter, one_records file records [] has (inl (short, refl)))

pub torn_short : (files : List ℕ → Type 0) (reads file : List ℕ) → length reads ≤ 1 → files reads → Torn 0 1 reads file → SameRecords files file
torn_short files reads file short is torn = (reads, is, λ records has. short_has reads file records short (omega (arith, short, torn.no_longer)) has)

-- a gate that was written at the front
pub gate_first : (old new : List ℕ) → Written 0 (0 ∷ []) old new → IsClosed [] new
gate_first old new written = record {
  gate = 0;
  ignored = drop 1 new;
  shut = omega arith;
  whole = sym (take-append-drop 1 new) ∙ ap (λ (l : List ℕ). l ++ drop 1 new) written.range;
}

-- each record has nine bytes and more
pub few_records : (records : List (List ℕ)) → 9 * length records ≤ length (frames records)
few_records [] = omega arith
few_records (r ∷ records) = omega (arith, few_records records, length-append (framed r) (frames records), length-counted r)

-- ---- disks

module _ {D : Type 0} (tells : D → Type 0) (reads : D → List ℕ) (may_leave : D → List ℕ → Type 0) (clock : D → ℕ) (left_since : D → ℕ → List ℕ → Type 0) where
  -- what was there is stored, and a crash at any moment leaves what it might have left
  pub record IsStored (old new : D) : Type 0 where
    pub told : tells new → tells old
    pub same : tells new → reads new ≡ reads old
    pub only : tells new → Only (reads old) (may_leave new)
    pub run : tells new → LeavesOnly clock left_since old new (may_leave old)
    pub later : clock old ≤ clock new

  begin : (since_now : (d : D) → tells d → Same (may_leave d) (left_since d (clock d))) (disk : D) → tells disk → LeavesOnly clock left_since disk disk (may_leave disk)
  begin since_now disk t = started clock left_since disk (may_leave disk) (λ f left. (since_now disk t).none_new f left)

  pub sync_failed : (since_now : (d : D) → tells d → Same (may_leave d) (left_since d (clock d))) (old new : D) → (tells new → tells old) → (tells new → Same (may_leave old) (may_leave new)) → (tells new → Gains (clock old) (left_since old) (left_since new) (may_leave new)) → tells new → LeavesOnly clock left_since old new (SameRecords (may_leave old))
  sync_failed since_now old new told same gains t =
      weaker clock left_since old new (may_leave old) (SameRecords (may_leave old)) (records_kept (may_leave old))
      (goes_on clock left_since old old new (may_leave old) (may_leave new) (omega arith) (begin since_now old (told t)) (gains t) (λ f is. (same t).none_new f is))

  pub sync_done : (since_now : (d : D) → tells d → Same (may_leave d) (left_since d (clock d))) (reads_now : (d : D) → tells d → may_leave d (reads d)) (old new : D) → (tells new → tells old) → (tells new → reads new ≡ reads old) → (tells new → Only (reads new) (may_leave new)) → (tells new → Gains (clock old) (left_since old) (left_since new) (may_leave new)) → clock old ≤ clock new → IsStored old new
  sync_done since_now reads_now old new told same only gains later = record {
    told = told;
    same = same;
    only = λ t c left. only t c left ∙ same t;
    run = λ t.
        goes_on clock left_since old old new (may_leave old) (may_leave new) (omega arith) (begin since_now old (told t)) (gains t)
        (λ f is. subst (may_leave old) (sym (only t f is ∙ same t)) (reads_now old (told t)));
    later = later;
  }

  pub then_looked : (reads_now : (d : D) → tells d → may_leave d (reads d)) (old mid new : D) → IsStored old mid → (tells new → tells mid) → (tells new → reads new ≡ reads mid) → (tells new → Same (may_leave mid) (may_leave new)) → (tells new → Gains (clock mid) (left_since mid) (left_since new) (may_leave new)) → clock mid ≤ clock new → IsStored old new
  then_looked reads_now old mid new stored told same crash gains later = record {
    told = λ t. stored.told (told t);
    same = λ t. same t ∙ stored.same (told t);
    only = λ t c left. stored.only (told t) c ((crash t).none_new c left);
    run = λ t.
        goes_on clock left_since old mid new (may_leave old) (may_leave new) stored.later (stored.run (told t)) (gains t)
        (λ f is. subst (may_leave old) (sym (stored.only (told t) f ((crash t).none_new f is))) (reads_now old (stored.told (told t))));
    later = omega (arith, stored.later, later);
  }

  pub then_observed : (reads_now : (d : D) → tells d → may_leave d (reads d)) (old mid new : D) → IsStored old mid → Observed tells reads may_leave clock left_since mid new → IsStored old new
  then_observed reads_now old mid new stored looked = record {
    told = λ t. stored.told (looked.told t);
    same = λ t. looked.reads_same t ∙ stored.same (looked.told t);
    only = λ t c left. stored.only (looked.told t) c ((looked.crash t).none_new c left);
    run = λ t.
        both clock left_since old mid new (may_leave old) stored.later (stored.run (looked.told t))
        (weaker clock left_since mid new (may_leave mid) (may_leave old) (λ f is. subst (may_leave old) (sym (stored.only (looked.told t) f is)) (reads_now old (stored.told (looked.told t)))) (looked.any_moment t));
    later = omega (arith, stored.later, looked.later);
  }

  pub stored_keeps : (old new : D) → IsStored old new → tells new → LeavesOnly clock left_since old new (SameRecords (may_leave old))
  stored_keeps old new stored t = weaker clock left_since old new (may_leave old) (SameRecords (may_leave old)) (records_kept (may_leave old)) (stored.run t)

  -- a gate is written at the front of a short file
  pub then_gate : (reads_now : (d : D) → tells d → may_leave d (reads d)) (old mid new : D) → IsStored old mid → (tells mid → length (reads old) ≤ 1) → (tells new → tells mid) → (tells new → LeavesOnly clock left_since mid new (TornFrom 0 1 (may_leave mid))) → tells new → LeavesOnly clock left_since old new (SameRecords (may_leave old))
  then_gate reads_now old mid new stored short told run t =
      let m = told t in
      both clock left_since old mid new (SameRecords (may_leave old)) stored.later (stored_keeps old mid stored m)
      (weaker clock left_since mid new (TornFrom 0 1 (may_leave mid)) (SameRecords (may_leave old)) (λ f torn.
      torn_short (may_leave old) (reads old) f (short m) (reads_now old (stored.told m)) (subst (λ (d : List ℕ). Torn 0 1 d f) (stored.only m torn.0 torn.1) torn.2)) (run t))

  -- a file with records is theirs in each file that a crash may leave
  pub stored_closed : (old new : D) (records : List (List ℕ)) → IsStored old new → AllFit records → IsClosed records (reads old) → tells new → HasRecords (reads old) records × ((file : List ℕ) → may_leave new file → IsClosed records file)
  stored_closed old new records stored fits closed t = (inr (fits, closed), λ file left. subst (IsClosed records) (sym (stored.only t file left)) closed)
