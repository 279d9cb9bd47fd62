-- What a publish leaves of what is kept.
use Rattle.std.proofs.Common.{◌≡◌, ◌⊎◌, inl, inr, ℕ, ◌+◌, ◌-◌, ◌^◌, ◌<◌, ◌≤◌, List, [], ◌∷◌, ◌++◌, length, refl, sym, ◌∙◌, ap, subst, arith, append_assoc, length-append}
use Rattle.std.specs.Prelude.{All, Result, Ok, Err, OnOk, min}
use Rattle.std.proofs.lemmas.List.{map-append, length-map}
use Rattle.std.proofs.lemmas.List.Elements.{All-push}
use Rattle.sc_journal.specs.Disk.{LeavesOnly, Same}
use Rattle.sc_journal.specs.Format.{frames, HasRecords}
use Rattle.sc_journal.specs.declared.journal.Journal.{Journal}
use Rattle.sc_journal.proofs.Files.{length-frames_last}
use Rattle.sc_journal.proofs.Tears.{started, weaker}
use Rattle.sc_catalog.specs.declared.entry.Entry.{Entry}
use Rattle.sc_catalog.specs.Entries.{Takes, TellsOf, change_of, loads_of}
use Rattle.sc_outside.specs.Causes.{HasCause}
use Rattle.sc_load.specs.declared.load.Load.{Load}
use Rattle.sc_load.specs.declared.fault.LoadFault.{LoadFault}
use Rattle.sc_load.specs.declared.fault.LoadFault.TheVariants.{OutOfMemory}
use Rattle.sc_history.specs.Changes.{Change}
use Rattle.sc_history.specs.Refusals.{IsRefused}
use Rattle.sc_history.specs.Taken.{Refuses}
use Rattle.sc_kept.specs.declared.fault.KeptFault.{KeptFault}
use Rattle.sc_kept.specs.declared.fault.KeptFault.TheVariants.{Refused}
use Rattle.sc_kept.specs.Record.{IsSealable, payload_of, payloads_of}
use Rattle.sc_kept.specs.Keeping.{HasBeginning, HasSomeOf, IsBehind, IsKeeping, IsKeptFault, IsStoredOn, IsStoredTo, IsSure, Keeping}
use Rattle.sc_kept.proofs.Following.{told_more}
use Rattle.sc_kept.proofs.Storing.{behind_has, crash_has, holds_any, some_beginning}

module _ {D : Type 0} (tells : D → Type 0) (may_leave : D → List ℕ → Type 0) where
  -- a payload comes last in the backlog
  waits_more : (journal : Journal D) (stored backlog : List (List ℕ)) (payload : List ℕ) → IsBehind tells may_leave journal stored backlog → IsBehind tells may_leave journal stored (backlog ++ payload ∷ [])
  waits_more journal stored [] payload b = record { holds = holds_any tells may_leave journal stored [] payload (b.settled refl) b.holds; settled = λ none. absurd cc }
  waits_more journal stored (first ∷ later) payload b = record { holds = b.holds; settled = λ none. absurd cc }

  pub stored_before : (old new : List Entry) (entry : Entry) (journal : Journal D) (backlog : List (List ℕ)) → new ≡ old ++ entry ∷ [] → IsSealable entry → Takes old entry.load → IsStoredTo tells may_leave old journal backlog → IsStoredTo tells may_leave new journal (backlog ++ payload_of entry ∷ [])
  stored_before old new entry journal backlog whole sealable takes s = record {
    sealable = subst (All IsSealable) (sym whole) (All-push IsSealable old entry s.sealable sealable);
    past = change_of entry.load takes.come ∷ takes.past;
    told = told_more old new entry takes whole;
    stored = s.stored;
    split = ap payloads_of whole ∙ map-append payload_of old (entry ∷ []) ∙ ap (λ (l : List (List ℕ)). l ++ payload_of entry ∷ []) s.split ∙ append_assoc s.stored backlog (payload_of entry ∷ []);
    behind = waits_more journal s.stored backlog (payload_of entry) s.behind;
  }

  -- the backlog has the load's record
  pub waiting : (old new : List Entry) (entry : Entry) (journal : Journal D) (backlog more : List (List ℕ)) → new ≡ old ++ entry ∷ [] → IsSealable entry → Takes old entry.load → more ≡ backlog ++ payload_of entry ∷ [] → IsStoredTo tells may_leave old journal backlog → IsStoredTo tells may_leave new journal more
  waiting old new entry journal backlog more whole sealable takes is s =
      subst (λ (l : List (List ℕ)). IsStoredTo tells may_leave new journal l) (sym is) (stored_before old new entry journal backlog whole sealable takes s)

  -- some of the backlog was stored
  pub stored_after : (entries : List Entry) (old new : Journal D) (backlog left : List (List ℕ)) → (s : IsStoredTo tells may_leave entries old backlog) → IsStoredOn tells may_leave s.stored backlog new left → IsStoredTo tells may_leave entries new left
  stored_after entries old new backlog left s on = record {
    sealable = s.sealable;
    past = s.past;
    told = s.told;
    stored = s.stored ++ on.done;
    split = s.split ∙ ap (λ (l : List (List ℕ)). s.stored ++ l) on.split ∙ sym (append_assoc s.stored on.done left);
    behind = on.behind;
  }

  -- without a backlog each file has the whole history
  pub whole_has : (entries : List Entry) (journal : Journal D) (backlog : List (List ℕ)) → backlog ≡ [] → IsStoredTo tells may_leave entries journal backlog → tells journal.disk → (file : List ℕ) → may_leave journal.disk file → HasRecords file (payloads_of entries)
  whole_has entries journal backlog none s t file left =
      let b = behind_has tells may_leave journal s.stored backlog s.behind t file left in
      let empty : b.done ≡ [] = nothing b.done b.rest (sym b.split ∙ none) in
      subst (HasRecords file) (ap (λ (l : List (List ℕ)). s.stored ++ l) (empty ∙ sym none) ∙ sym s.split) b.has
    where
      nothing : (xs ys : List (List ℕ)) → xs ++ ys ≡ [] → xs ≡ []
      nothing [] ys e = refl
      nothing (x ∷ xs) ys e = absurd cc

  module _ (clock : D → ℕ) (left_since : D → ℕ → List ℕ → Type 0) where
    -- nothing was done
    pub kept_run : (since_now : (d : D) → tells d → Same (may_leave d) (left_since d (clock d))) (entries : List Entry) (journal : Journal D) (backlog : List (List ℕ)) → IsStoredTo tells may_leave entries journal backlog → tells journal.disk →
        LeavesOnly clock left_since journal.disk journal.disk (HasBeginning entries journal.count)
    kept_run since_now entries journal backlog s t =
        started clock left_since journal.disk (HasBeginning entries journal.count) (λ f left. crash_has tells may_leave entries journal backlog s t f ((since_now journal.disk t).none_new f left))

    pub stored_run : (entries : List Entry) (old new : Journal D) (backlog : List (List ℕ)) (s : IsStoredTo tells may_leave entries old backlog) → LeavesOnly clock left_since old.disk new.disk (HasSomeOf s.stored backlog) →
        LeavesOnly clock left_since old.disk new.disk (HasBeginning entries old.count)
    stored_run entries old new backlog s run =
        weaker clock left_since old.disk new.disk (HasSomeOf s.stored backlog) (HasBeginning entries old.count) (λ f has. some_beginning entries s.stored backlog old.count f s.split s.behind.holds.count has) run

  pub count_fewer : (entries : List Entry) (journal : Journal D) (backlog : List (List ℕ)) → IsStoredTo tells may_leave entries journal backlog → 0 < length backlog → journal.count < length entries
  count_fewer entries journal backlog s some =
      omega (arith, some, s.behind.holds.count, ap length s.split, length-append s.stored backlog, length-map entries payload_of)

pub size_more : (backlog : List (List ℕ)) (payload : List ℕ) → length (frames (backlog ++ payload ∷ [])) ≡ length (frames backlog) + 9 + length payload
size_more backlog payload = length-frames_last backlog payload

pub room_more : (place size larger : ℕ) (backlog more : List (List ℕ)) (payload : List ℕ) → size ≡ place + length (frames backlog) → more ≡ backlog ++ payload ∷ [] → larger ≡ size + 9 + length payload → larger ≡ place + length (frames more)
room_more place size larger backlog more payload is whole grown = omega (arith, is, grown, ap (λ (l : List (List ℕ)). length (frames l)) whole, size_more backlog payload)

-- a disk that never fails stores all
sure_after : {D T E : Type 0} (faults : D → ℕ) (old new : D) (left : List (List ℕ)) (result : Result T E) → HasCause (faults old) (faults new) result → OnOk result (left ≡ []) → IsSure faults → left ≡ []
sure_after faults old new left (Ok value) cause all never = all
sure_after faults old new left (Err fault) cause all never =
    let rose : 1 ≤ 0 = subst (λ (k : ℕ). min (k + 1) (2 ^ 64 - 1) ≤ 0) (never old) (subst (λ (k : ℕ). min (faults old + 1) (2 ^ 64 - 1) ≤ k) (never new) cause.failed) in
    absurd (omega (arith, rose))

-- what is kept after the backlog was stored, or its first
pub keeping_after : {D T E : Type 0} (tells : D → Type 0) (may_leave : D → List ℕ → Type 0) (faults : D → ℕ) (entries : List Entry) (old new : Journal D) (more left : List (List ℕ)) (size : ℕ) (result : Result T E) →
    (s : IsStoredTo tells may_leave entries old more) → IsStoredOn tells may_leave s.stored more new left → size ≡ old.place + length (frames more) → size < 2 ^ 63 → new.place + length (frames left) ≡ old.place + length (frames more) →
    HasCause (faults old.disk) (faults new.disk) result → OnOk result (left ≡ []) → IsKeeping tells may_leave faults entries new left size
keeping_after tells may_leave faults entries old new more left size result s on is small same cause all = record {
  stored_to = stored_after tells may_leave entries old new more left s on;
  sure = sure_after faults old.disk new.disk left result cause all;
  size_is = is ∙ sym same;
  small = small;
}

-- want of memory refuses any load
pub refused : (entries : List Entry) (past : List Change) (load : Load) (fault : LoadFault) → TellsOf entries past → (fault ≡ OutOfMemory) ⊎ Refuses (loads_of entries) load fault → Refuses (loads_of entries) load fault
refused entries past load fault told (inl is) = record { past = past; told = told; refused = subst (λ (f : LoadFault). IsRefused past load f) (sym is) tt }
refused entries past load fault told (inr r) = r

pub same_kept : {D : Type 0} (old new : Keeping D) → new.catalogue ≡ old.catalogue → new.journal ≡ old.journal → new.backlog ≡ old.backlog → new ≡ old
same_kept old new p q r = λ i. record { catalogue = p i; journal = q i; backlog = r i }

pub was_refused : {D : Type 0} (faults : D → ℕ) (by : ℕ) (load : Load) (old new : Keeping D) (fault : LoadFault) (kept : KeptFault) → kept ≡ Refused fault → Refuses (loads_of old.catalogue.entries) load fault → new ≡ old → IsKeptFault faults by load old new kept
was_refused faults by load old new fault kept is r same = subst (λ (k : KeptFault). IsKeptFault faults by load old new k) (sym is) (r, same)
