-- How a backlog is stored, record by record.
use Rattle.std.proofs.Common.{◌≡◌, inl, inr, ℕ, ◌+◌, ◌^◌, ◌<◌, ◌≤◌, List, [], ◌∷◌, ◌++◌, length, get_or, drop, refl, sym, ◌∙◌, ap, subst, arith, append_assoc, length-append}
use Rattle.std.proofs.lemmas.List.{append-nil}
use Rattle.sc_journal.specs.Disk.{LeavesOnly, Same}
use Rattle.sc_journal.specs.Format.{framed, frames, HasRecords}
use Rattle.sc_journal.specs.Journal.{Holds, HasAfter, Stands, WithOrWithout}
use Rattle.sc_journal.specs.declared.journal.Journal.{Journal}
use Rattle.sc_journal.specs.declared.journal.LastAppend.{LastAppend}
use Rattle.sc_journal.specs.declared.journal.LastAppend.TheVariants.{Stored}
use Rattle.sc_journal.proofs.Files.{length-counted}
use Rattle.sc_journal.proofs.Holding.{has_with}
use Rattle.sc_journal.proofs.Tears.{started, both, weaker}
use Rattle.sc_catalog.specs.declared.entry.Entry.{Entry}
use Rattle.sc_kept.specs.Record.{payloads_of}
use Rattle.sc_kept.specs.Keeping.{HasBeginning, HasSomeOf, IsBehind, IsKeeping, IsStoredOn, IsStoredTo, next_of}
use Rattle.sc_kept.specs.Replaying.{AreRecordsOf}

-- ---- files

with_some : (stored backlog : List (List ℕ)) (file : List ℕ) → WithOrWithout stored (next_of backlog) file → (backlog ≡ [] → HasRecords file stored) → HasSomeOf stored backlog file
with_some stored [] file has none = record { done = []; rest = []; split = refl; has = subst (HasRecords file) (sym (append-nil stored)) (none refl) }
with_some stored (next ∷ later) file (inl has) none = record { done = []; rest = next ∷ later; split = refl; has = subst (HasRecords file) (sym (append-nil stored)) has }
with_some stored (next ∷ later) file (inr has) none = record { done = next ∷ []; rest = later; split = refl; has = has }

-- the records that are stored, with the first of the rest
some_more : (stored done backlog later : List (List ℕ)) (file : List ℕ) → backlog ≡ done ++ later → HasSomeOf (stored ++ done) later file → HasSomeOf stored backlog file
some_more stored done backlog later file split has = record {
  done = done ++ has.done;
  rest = has.rest;
  split = split ∙ ap (λ (l : List (List ℕ)). done ++ l) has.split ∙ sym (append_assoc done has.done has.rest);
  has = subst (HasRecords file) (append_assoc stored done has.done) has.has;
}

stored_has : (last : LastAppend) (records : List (List ℕ)) (next file : List ℕ) → last ≡ Stored → HasAfter last records next file → HasRecords file records
stored_has last records next file is has = subst (λ (l : LastAppend). HasAfter l records next file) is has

module _ {D : Type 0} (tells : D → Type 0) (may_leave : D → List ℕ → Type 0) where
  -- what a crash leaves has the records, and perhaps the next
  pub behind_has : (journal : Journal D) (stored backlog : List (List ℕ)) → IsBehind tells may_leave journal stored backlog → tells journal.disk → (file : List ℕ) → may_leave journal.disk file → HasSomeOf stored backlog file
  behind_has journal stored backlog b t file left =
      let has = b.holds.has t file left in
      with_some stored backlog file (has_with journal.last stored (next_of backlog) file has) (λ none. stored_has journal.last stored (next_of backlog) file (b.settled none) has)

  -- after a stored append nothing else may be there, whatever comes next
  pub holds_any : (journal : Journal D) (stored : List (List ℕ)) (next other : List ℕ) → journal.last ≡ Stored → Holds tells may_leave journal stored next → Holds tells may_leave journal stored other
  holds_any journal stored next other is h = record {
    place = h.place;
    count = h.count;
    fits = h.fits;
    stands = λ t file left. subst (λ (l : LastAppend). Stands l stored other file) (sym is) (subst (λ (l : LastAppend). Stands l stored next file) is (h.stands t file left));
    has = λ t file left. subst (λ (l : LastAppend). HasAfter l stored other file) (sym is) (subst (λ (l : LastAppend). HasAfter l stored next file) is (h.has t file left));
  }

  pub stored_none : (journal : Journal D) (stored backlog : List (List ℕ)) → IsBehind tells may_leave journal stored backlog → IsStoredOn tells may_leave stored backlog journal backlog
  stored_none journal stored backlog b = record { done = []; split = refl; behind = subst (λ (l : List (List ℕ)). IsBehind tells may_leave journal l backlog) (sym (append-nil stored)) b }

  -- the first of a backlog was stored
  pub stored_one : (old new : Journal D) (stored whole later : List (List ℕ)) (first : List ℕ) → IsStoredOn tells may_leave stored whole old (first ∷ later) →
      ((records : List (List ℕ)) → Holds tells may_leave old records first → (next : List ℕ) → Holds tells may_leave new (records ++ first ∷ []) next) → new.last ≡ Stored → IsStoredOn tells may_leave stored whole new later
  stored_one old new stored whole later first so appended last = record {
    done = so.done ++ first ∷ [];
    split = so.split ∙ sym (append_assoc so.done (first ∷ []) later);
    behind = record {
      holds = subst (λ (l : List (List ℕ)). Holds tells may_leave new l (next_of later)) (append_assoc stored so.done (first ∷ [])) (appended (stored ++ so.done) so.behind.holds (next_of later));
      settled = λ none. last;
    };
  }

  -- the append of the first failed
  pub stored_still : (old new : Journal D) (stored whole later : List (List ℕ)) (first : List ℕ) → IsStoredOn tells may_leave stored whole old (first ∷ later) →
      ((records : List (List ℕ)) → Holds tells may_leave old records first → Holds tells may_leave new records first) → IsStoredOn tells may_leave stored whole new (first ∷ later)
  stored_still old new stored whole later first so kept = record {
    done = so.done;
    split = so.split;
    behind = record { holds = kept (stored ++ so.done) so.behind.holds; settled = λ none. absurd cc };
  }

  module _ (clock : D → ℕ) (left_since : D → ℕ → List ℕ → Type 0) where
    -- nothing was done yet
    pub run_none : (since_now : (d : D) → tells d → Same (may_leave d) (left_since d (clock d))) (journal : Journal D) (stored backlog : List (List ℕ)) → IsBehind tells may_leave journal stored backlog → tells journal.disk → LeavesOnly clock left_since journal.disk journal.disk (HasSomeOf stored backlog)
    run_none since_now journal stored backlog b t =
        started clock left_since journal.disk (HasSomeOf stored backlog) (λ f left. behind_has journal stored backlog b t f ((since_now journal.disk t).none_new f left))

    -- an append more, whether it failed or not
    pub run_one : (begun old new : Journal D) (stored whole later : List (List ℕ)) (first : List ℕ) → IsStoredOn tells may_leave stored whole old (first ∷ later) → clock begun.disk ≤ clock old.disk →
        LeavesOnly clock left_since begun.disk old.disk (HasSomeOf stored whole) →
        ((records : List (List ℕ)) → Holds tells may_leave old records first → tells new.disk → LeavesOnly clock left_since old.disk new.disk (WithOrWithout records first)) → tells new.disk →
        LeavesOnly clock left_since begun.disk new.disk (HasSomeOf stored whole)
    run_one begun old new stored whole later first so after so_far appended t =
        both clock left_since begun.disk old.disk new.disk (HasSomeOf stored whole) after so_far
        (weaker clock left_since old.disk new.disk (WithOrWithout (stored ++ so.done) first) (HasSomeOf stored whole)
        (λ f has. some_more stored so.done whole (first ∷ later) f so.split (with_some (stored ++ so.done) (first ∷ later) f has (λ none. absurd cc)))
        (appended (stored ++ so.done) so.behind.holds t))

-- a record more stands before the rest
pub one_size : (first : List ℕ) (later : List (List ℕ)) → length (frames (first ∷ later)) ≡ 9 + length first + length (frames later)
one_size first later = omega (arith, length-append (framed first) (frames later), length-counted first)

-- ---- histories

pub some_beginning : (entries : List Entry) (stored backlog : List (List ℕ)) (least : ℕ) (file : List ℕ) → payloads_of entries ≡ stored ++ backlog → least ≡ length stored → HasSomeOf stored backlog file → HasBeginning entries least file
some_beginning entries stored backlog least file split is has = record {
  stored = stored ++ has.done;
  rest = has.rest;
  split = split ∙ ap (λ (l : List (List ℕ)). stored ++ l) has.split ∙ sym (append_assoc stored has.done has.rest);
  least_is = omega (arith, is, length-append stored has.done);
  has = has.has;
}

pub crash_has : {D : Type 0} (tells : D → Type 0) (may_leave : D → List ℕ → Type 0) (entries : List Entry) (journal : Journal D) (backlog : List (List ℕ)) → IsStoredTo tells may_leave entries journal backlog → tells journal.disk → (file : List ℕ) → may_leave journal.disk file → HasBeginning entries journal.count file
crash_has tells may_leave entries journal backlog s t file left =
    some_beginning entries s.stored backlog journal.count file s.split s.behind.holds.count (behind_has tells may_leave journal s.stored backlog s.behind t file left)

-- a journal that was just opened is kept without a backlog
pub kept_new : {D : Type 0} (tells : D → Type 0) (may_leave : D → List ℕ → Type 0) (faults : D → ℕ) (entries : List Entry) (journal : Journal D) (records backlog : List (List ℕ)) (size : ℕ) →
    AreRecordsOf entries records → ((next : List ℕ) → Holds tells may_leave journal records next) → journal.last ≡ Stored → backlog ≡ [] → size ≡ journal.place → size < 2 ^ 63 → IsKeeping tells may_leave faults entries journal backlog size
kept_new tells may_leave faults entries journal records backlog size are holds last none is small = record {
  stored_to = record {
    sealable = are.sealable;
    past = are.past;
    told = are.told;
    stored = records;
    split = sym are.are ∙ sym (append-nil records) ∙ ap (λ (l : List (List ℕ)). records ++ l) (sym none);
    behind = record { holds = holds (next_of backlog); settled = λ empty. last };
  };
  sure = λ never. none;
  size_is = omega (arith, is, ap (λ (l : List (List ℕ)). length (frames l)) none);
  small = small;
}

-- ---- a backlog's first

pub first_of : (xs : List (List ℕ)) (x : List ℕ) → 0 < length xs → x ≡ get_or xs 0 x → xs ≡ x ∷ drop 1 xs
first_of [] x some is = absurd (omega (arith, some))
first_of (y ∷ xs) x some is = ap (λ (l : List ℕ). l ∷ xs) (sym is)
