-- What each step of an append leaves of a journal.
use Rattle.std.proofs.Common.{◌≡◌, inl, ℕ, ◌+◌, List, [], ◌∷◌, ◌++◌, length, ◌∙◌, subst, arith, length-append}
use Rattle.sc_journal.specs.Disk.{TornFrom, Within, Same, Only, Written, LeavesOnly}
use Rattle.sc_journal.specs.Format.{behind_gate, Fits}
use Rattle.sc_journal.specs.Journal.{Holds, WithOrWithout, Stands}
use Rattle.sc_journal.specs.declared.journal.Journal.{Journal}
use Rattle.sc_journal.specs.declared.journal.LastAppend.TheVariants.{Stored, GateClosed, GateWritten}
use Rattle.sc_journal.proofs.Files.{AllFit-last, length-frames_last, written_has, closed_has}
use Rattle.sc_journal.proofs.Holding.{holds, has_with, stands_closed, closed_tears, written_tears, record_stored, gate_opened, gate_closed}
use Rattle.sc_journal.proofs.Tears.{started, weaker}

module _ {D : Type 0} (tells : D → Type 0) (may_leave : D → List ℕ → Type 0) (old new : Journal D) (records : List (List ℕ)) (next : List ℕ) where
  -- the same gate
  pub record SameGate : Type 0 where
    pub place : new.place ≡ old.place
    pub count : new.count ≡ old.count
    pub told : tells new.disk → tells old.disk

  -- the gate was written, or was to be
  pub torn_gate : old.last ≡ GateWritten → new.last ≡ GateWritten → SameGate → (tells new.disk → Within (may_leave new.disk) (TornFrom old.place 1 (may_leave old.disk))) → Holds tells may_leave old records next → Holds tells may_leave new records next
  torn_gate was is same crash h =
      holds tells may_leave new GateWritten records next is (same.place ∙ h.place) (same.count ∙ h.count) h.fits (λ t.
      written_tears records old.place h.place next (may_leave old.disk) (may_leave new.disk)
      (λ file left. subst (λ l. Stands l records next file) was (h.stands (same.told t) file left)) (crash t))

  -- the gate was closed
  pub closed_gate : (was_file is_file : List ℕ) → old.last ≡ GateWritten → new.last ≡ GateClosed → SameGate → (tells old.disk → may_leave old.disk was_file) → (tells new.disk → Written old.place (0 ∷ []) was_file is_file) → (tells new.disk → Only is_file (may_leave new.disk)) → Holds tells may_leave old records next → Holds tells may_leave new records next
  closed_gate was_file is_file was is same left written only h =
      holds tells may_leave new GateClosed records next is (same.place ∙ h.place) (same.count ∙ h.count) h.fits (λ t.
      gate_closed records old.place h.place next (may_leave old.disk) (may_leave new.disk) was_file is_file
      (subst (λ l. Stands l records next was_file) was (h.stands (same.told t) was_file (left (same.told t)))) (written t) (only t))

  -- something was written behind the gate, or was to be
  pub torn_behind : (n : ℕ) → (old.last ≡ GateWritten → ⊥) → new.last ≡ GateClosed → SameGate → (tells new.disk → Within (may_leave new.disk) (TornFrom (old.place + 1) n (may_leave old.disk))) → Holds tells may_leave old records next → Holds tells may_leave new records next
  torn_behind n was is same crash h =
      holds tells may_leave new GateClosed records next is (same.place ∙ h.place) (same.count ∙ h.count) h.fits (λ t.
      closed_tears records old.place h.place next (may_leave old.disk) (may_leave new.disk) n
      (λ file left. stands_closed old.last records next file was (h.stands (same.told t) file left)) (crash t))

  -- the record was stored behind the gate
  pub stored_behind : (was_file is_file : List ℕ) → Fits next → (old.last ≡ GateWritten → ⊥) → new.last ≡ GateWritten → SameGate → (tells old.disk → may_leave old.disk was_file) → (tells new.disk → Written (old.place + 1) (behind_gate next) was_file is_file) → (tells new.disk → Only is_file (may_leave new.disk)) → Holds tells may_leave old records next → Holds tells may_leave new records next
  stored_behind was_file is_file fits was is same left written only h =
      holds tells may_leave new GateWritten records next is (same.place ∙ h.place) (same.count ∙ h.count) h.fits (λ t.
      record_stored records old.place h.place next (may_leave old.disk) (may_leave new.disk) was_file is_file fits
      (stands_closed old.last records next was_file was (h.stands (same.told t) was_file (left (same.told t)))) (written t) (only t))

  -- the gate was opened
  pub opened_gate : (was_file is_file later : List ℕ) → Fits next → old.last ≡ GateWritten → new.last ≡ Stored → new.place ≡ old.place + 9 + length next → new.count ≡ old.count + 1 → (tells new.disk → tells old.disk) → (tells old.disk → may_leave old.disk was_file) → (tells new.disk → Written old.place (1 ∷ []) was_file is_file) → (tells new.disk → Only is_file (may_leave new.disk)) → Holds tells may_leave old records next → Holds tells may_leave new (records ++ next ∷ []) later
  opened_gate was_file is_file later fits was is place count told left written only h =
      holds tells may_leave new Stored (records ++ next ∷ []) later is (omega (arith, place, h.place, length-frames_last records next)) (omega (arith, count, h.count, length-append records (next ∷ []))) (AllFit-last records next h.fits fits) (λ t.
      gate_opened records old.place h.place next (may_leave old.disk) (may_leave new.disk) was_file is_file
      (subst (λ l. Stands l records next was_file) was (h.stands (told t) was_file (left (told t)))) (written t) (only t))

  -- ---- at each moment

  pub run_gate : (clock : D → ℕ) (left_since : D → ℕ → List ℕ → Type 0) → old.last ≡ GateWritten → (tells new.disk → tells old.disk) → (tells new.disk → LeavesOnly clock left_since old.disk new.disk (TornFrom old.place 1 (may_leave old.disk))) → Holds tells may_leave old records next → tells new.disk → LeavesOnly clock left_since old.disk new.disk (WithOrWithout records next)
  run_gate clock left_since was told run h t =
      weaker clock left_since old.disk new.disk (TornFrom old.place 1 (may_leave old.disk)) (WithOrWithout records next) (λ file torn.
      written_has records next file h.fits (written_tears records old.place h.place next (may_leave old.disk) (TornFrom old.place 1 (may_leave old.disk))
      (λ f left. subst (λ l. Stands l records next f) was (h.stands (told t) f left)) (λ f is. is) file torn)) (run t)

  pub run_behind : (clock : D → ℕ) (left_since : D → ℕ → List ℕ → Type 0) (n : ℕ) → (old.last ≡ GateWritten → ⊥) → (tells new.disk → tells old.disk) → (tells new.disk → LeavesOnly clock left_since old.disk new.disk (TornFrom (old.place + 1) n (may_leave old.disk))) → Holds tells may_leave old records next → tells new.disk → LeavesOnly clock left_since old.disk new.disk (WithOrWithout records next)
  run_behind clock left_since n was told run h t =
      weaker clock left_since old.disk new.disk (TornFrom (old.place + 1) n (may_leave old.disk)) (WithOrWithout records next) (λ file torn.
      inl (closed_has records file h.fits (closed_tears records old.place h.place next (may_leave old.disk) (TornFrom (old.place + 1) n (may_leave old.disk)) n
      (λ f left. stands_closed old.last records next f was (h.stands (told t) f left)) (λ f is. is) file torn))) (run t)

  -- no call of the disk
  pub run_none : (clock : D → ℕ) (left_since : D → ℕ → List ℕ → Type 0) → ((disk : D) → tells disk → Same (may_leave disk) (left_since disk (clock disk))) → Holds tells may_leave old records next → tells old.disk → LeavesOnly clock left_since old.disk old.disk (WithOrWithout records next)
  run_none clock left_since since_now h t =
      started clock left_since old.disk (WithOrWithout records next) (λ file left. has_with old.last records next file (h.has t file ((since_now old.disk t).none_new file left)))
