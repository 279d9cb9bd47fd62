-- From how a file stands behind the records to what a journal holds.
use Rattle.std.proofs.Common.{◌≡◌, inl, ℕ, ◌+◌, List, [], ◌∷◌, ◌++◌, length, refl, sym, subst, arith}
use Rattle.sc_journal.specs.Disk.{TornFrom, Within, Only, Written}
use Rattle.sc_journal.specs.Format.{frames, behind_gate, Fits, AllFit, IsClosed}
use Rattle.sc_journal.specs.Journal.{Holds, WithOrWithout, IsWritten, Stands, HasAfter}
use Rattle.sc_journal.specs.declared.journal.Journal.{Journal}
use Rattle.sc_journal.specs.declared.journal.LastAppend.{LastAppend}
use Rattle.sc_journal.specs.declared.journal.LastAppend.TheVariants.{Stored, GateClosed, GateWritten}
use Rattle.sc_journal.proofs.Files.{closed_has, written_has, closed_torn, closed_written, written_torn, gate_written, gate_open}

pub stands_has : (last : LastAppend) (records : List (List ℕ)) (next file : List ℕ) → AllFit records → Stands last records next file → HasAfter last records next file
stands_has Stored records next file fits stands = closed_has records file fits stands
stands_has GateClosed records next file fits stands = closed_has records file fits stands
stands_has GateWritten records next file fits stands = written_has records next file fits stands

pub has_with : (last : LastAppend) (records : List (List ℕ)) (next file : List ℕ) → HasAfter last records next file → WithOrWithout records next file
has_with Stored records next file has = inl has
has_with GateClosed records next file has = inl has
has_with GateWritten records next file has = has

-- a journal that stands so holds the records
pub holds : {D : Type 0} (tells : D → Type 0) (may_leave : D → List ℕ → Type 0) (journal : Journal D) (last : LastAppend) (records : List (List ℕ)) (next : List ℕ) → journal.last ≡ last → journal.place ≡ length (frames records) → journal.count ≡ length records → AllFit records → (tells journal.disk → (file : List ℕ) → may_leave journal.disk file → Stands last records next file) → Holds tells may_leave journal records next
holds tells may_leave journal last records next is place count fits stands = record {
  place = place;
  count = count;
  fits = fits;
  stands = λ t file left. subst (λ l. Stands l records next file) (sym is) (stands t file left);
  has = λ t file left. subst (λ l. HasAfter l records next file) (sym is) (stands_has last records next file fits (stands t file left));
}

-- a closed gate is closed whether the last append was stored or not
pub stands_closed : (last : LastAppend) (records : List (List ℕ)) (next file : List ℕ) → (last ≡ GateWritten → ⊥) → Stands last records next file → IsClosed records file
stands_closed Stored records next file not stands = stands
stands_closed GateClosed records next file not stands = stands
stands_closed GateWritten records next file not stands = absurd (not refl)

module _ (records : List (List ℕ)) (place : ℕ) (is_place : place ≡ length (frames records)) (next : List ℕ) (old now : List ℕ → Type 0) where
  -- after a write behind the gate that may be torn
  pub closed_tears : (n : ℕ) → ((file : List ℕ) → old file → IsClosed records file) → Within now (TornFrom (place + 1) n old) → (file : List ℕ) → now file → IsClosed records file
  closed_tears n stands within file left = let from = within file left in closed_torn records place is_place n from.0 file (stands from.0 from.1) from.2

  -- after a write of the gate that may be torn
  pub written_tears : ((file : List ℕ) → old file → IsWritten records next file) → Within now (TornFrom place 1 old) → (file : List ℕ) → now file → IsWritten records next file
  written_tears stands within file left = let from = within file left in written_torn records place is_place next from.0 file (stands from.0 from.1) from.2

  -- after a record is stored behind the gate
  pub record_stored : (was reads : List ℕ) → Fits next → IsClosed records was → Written (place + 1) (behind_gate next) was reads → Only reads now → (file : List ℕ) → now file → IsWritten records next file
  record_stored was reads fits stands written only file left = subst (IsWritten records next) (sym (only file left)) (closed_written records place is_place next was reads fits stands written)

  -- after the gate is stored open
  pub gate_opened : (was reads : List ℕ) → IsWritten records next was → Written place (1 ∷ []) was reads → Only reads now → (file : List ℕ) → now file → IsClosed (records ++ next ∷ []) file
  gate_opened was reads stands written only file left =
      subst (IsClosed (records ++ next ∷ [])) (sym (only file left)) (gate_open records next reads stands.ignored (gate_written records place is_place next was reads 1 stands written))

  -- after the gate is stored closed
  pub gate_closed : (was reads : List ℕ) → IsWritten records next was → Written place (0 ∷ []) was reads → Only reads now → (file : List ℕ) → now file → IsClosed records file
  gate_closed was reads stands written only file left =
      subst (IsClosed records) (sym (only file left)) (record { gate = 0; ignored = behind_gate next ++ stands.ignored; shut = omega arith; whole = gate_written records place is_place next was reads 0 stands written })
