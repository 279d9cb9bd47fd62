-- How a history goes on by the load of a record.
use Rattle.std.proofs.Common.{◌≡◌, ℕ, List, [], ◌∷◌, ◌++◌, length, refl, sym, ap, subst, ◌∙◌, append_assoc}
use Rattle.std.specs.Prelude.{All}
use Rattle.std.proofs.lemmas.List.{map-append, length-map}
use Rattle.std.proofs.lemmas.List.Elements.{All-nil, All-push}
use Rattle.sc_load.specs.declared.load.Load.{Load}
use Rattle.sc_history.specs.Taken.{Tells}
use Rattle.sc_history.proofs.Telling.{told_next, told_nothing}
use Rattle.sc_catalog.specs.declared.entry.Entry.{Entry}
use Rattle.sc_catalog.specs.Entries.{Takes, TellsOf, change_of, loads_of}
use Rattle.sc_catalog.proofs.Committing.{loads_more}
use Rattle.sc_kept.specs.Record.{IsPayload, IsSealable, payload_of, payloads_of}
use Rattle.sc_kept.specs.Replaying.{AreRecordsOf, CannotFollow, Follows, IsBadAt}

-- a history that goes on by a load which it takes
pub told_more : (old new : List Entry) (entry : Entry) → (takes : Takes old entry.load) → new ≡ old ++ entry ∷ [] → TellsOf new (change_of entry.load takes.come ∷ takes.past)
told_more old new entry takes whole =
    subst (λ (l : List Load). Tells l (change_of entry.load takes.come ∷ takes.past)) (sym (ap loads_of whole ∙ loads_more old entry)) (told_next (loads_of old) takes.past (change_of entry.load takes.come) takes.told takes.accepted)

pub follows : (old : List Entry) (bytes : List ℕ) (new : List Entry) (entry : Entry) → IsPayload bytes entry → Takes old entry.load → new ≡ old ++ entry ∷ [] → Follows old bytes new
follows old bytes new entry is takes whole = record {
  entry = entry;
  is = is;
  whole = whole;
  past = change_of entry.load takes.come ∷ takes.past;
  told = told_more old new entry takes whole;
}

pub records_none : AreRecordsOf [] []
records_none = record { are = refl; sealable = All-nil IsSealable; past = []; told = told_nothing }

pub records_more : (old new : List Entry) (records : List (List ℕ)) (bytes : List ℕ) → AreRecordsOf old records → Follows old bytes new → AreRecordsOf new (records ++ bytes ∷ [])
records_more old new records bytes so f = record {
  are = (λ k. so.are k ++ f.is.is k ∷ []) ∙ sym (map-append payload_of old (f.entry ∷ [])) ∙ ap payloads_of (sym f.whole);
  sealable = subst (All IsSealable) (sym f.whole) (All-push IsSealable old f.entry so.sealable f.is.sealable);
  past = f.past;
  told = f.told;
}

pub bad_record : (old : List Entry) (records : List (List ℕ)) (place : ℕ) (bytes : List ℕ) → AreRecordsOf old records → place ≡ length old → CannotFollow old bytes → IsBadAt (records ++ bytes ∷ []) place
bad_record old records place bytes so at cannot = record {
  before = records;
  bad = bytes;
  after = [];
  split = refl;
  place_is = at ∙ sym (ap length so.are ∙ length-map old payload_of);
  entries = old;
  are = so;
  cannot = cannot;
}

-- what comes behind a bad record doesn't count
pub bad_more : (records : List (List ℕ)) (place : ℕ) (bytes : List ℕ) → IsBadAt records place → IsBadAt (records ++ bytes ∷ []) place
bad_more records place bytes is = record {
  before = is.before;
  bad = is.bad;
  after = is.after ++ bytes ∷ [];
  split = ap (λ (l : List (List ℕ)). l ++ bytes ∷ []) is.split ∙ append_assoc is.before (is.bad ∷ is.after) (bytes ∷ []);
  place_is = is.place_is;
  entries = is.entries;
  are = is.are;
  cannot = is.cannot;
}
