-- How a file stands behind its records after the writes of an append.
use Rattle.std.proofs.Common.{◌≡◌, inl, inr, ℕ, ◌+◌, ◌≤◌, List, [], ◌∷◌, ◌++◌, length, get_or, take, drop, refl, sym, ◌∙◌, ap, arith, append_assoc, length-append, take-append-drop}
use Rattle.std.proofs.lemmas.Bool.{cases_eq}
use Rattle.std.proofs.lemmas.List.{append-nil, take_at, drop_at, drop_more}
use Rattle.std.specs.Int.{w64, to_be_bytes}
use Rattle.sc_journal.specs.Disk.{Torn, Written}
use Rattle.sc_journal.specs.Format.{counted, framed, frames, behind_gate, Fits, AllFit, IsClosed, HasRecords}
use Rattle.sc_journal.specs.Journal.{WithOrWithout, IsWritten}
use Rattle.sc_journal.proofs.Tears.{Torn-front}

-- ---- records

pub frames-append : (records : List (List ℕ)) (more : List (List ℕ)) → frames (records ++ more) ≡ frames records ++ frames more
frames-append [] more = refl
frames-append (r ∷ records) more = ap (λ (l : List ℕ). framed r ++ l) (frames-append records more) ∙ sym (append_assoc (framed r) (frames records) (frames more))

pub length-counted : (payload : List ℕ) → length (counted payload) ≡ 8 + length payload
length-counted payload = length-append (to_be_bytes w64 (length payload)) payload

pub length-behind : (payload : List ℕ) → length (behind_gate payload) ≡ 9 + length payload
length-behind payload = omega (arith, length-append (counted payload) (0 ∷ []), length-counted payload)

pub frames-last : (records : List (List ℕ)) (payload rest : List ℕ) → frames (records ++ payload ∷ []) ++ rest ≡ frames records ++ (framed payload ++ rest)
frames-last records payload rest =
    ap (λ (l : List ℕ). l ++ rest) (frames-append records (payload ∷ []) ∙ ap (λ (l : List ℕ). frames records ++ l) (append-nil (framed payload)))
    ∙ append_assoc (frames records) (framed payload) rest

pub length-frames_last : (records : List (List ℕ)) (payload : List ℕ) → length (frames (records ++ payload ∷ [])) ≡ length (frames records) + 9 + length payload
length-frames_last records payload =
    let is = ap length (frames-append records (payload ∷ []) ∙ ap (λ (l : List ℕ). frames records ++ l) (append-nil (framed payload))) in
    omega (arith, is, length-append (frames records) (framed payload), length-counted payload)

pub AllFit-last : (records : List (List ℕ)) (payload : List ℕ) → AllFit records → Fits payload → AllFit (records ++ payload ∷ [])
AllFit-last [] payload all fits = (fits, tt)
AllFit-last (r ∷ records) payload all fits = (all.0, AllFit-last records payload all.1 fits)

-- ---- what the file has

pub closed_has : (records : List (List ℕ)) (file : List ℕ) → AllFit records → IsClosed records file → HasRecords file records
closed_has records file fits closed = inr (fits, closed)

pub gate_open : (records : List (List ℕ)) (next file ignored : List ℕ) → file ≡ frames records ++ (1 ∷ behind_gate next ++ ignored) → IsClosed (records ++ next ∷ []) file
gate_open records next file ignored is = record {
  gate = 0;
  ignored = ignored;
  shut = omega arith;
  whole = is ∙ ap (λ (l : List ℕ). frames records ++ (1 ∷ l)) (append_assoc (counted next) (0 ∷ []) ignored) ∙ sym (frames-last records next (0 ∷ ignored));
}

pub written_has : (records : List (List ℕ)) (next file : List ℕ) → AllFit records → IsWritten records next file → WithOrWithout records next file
written_has records next file fits written =
    elim (cases_eq written.gate 1) [
      | inl open_gate ↦
          let is : file ≡ frames records ++ (1 ∷ behind_gate next ++ written.ignored) = written.whole ∙ ap (λ (g : ℕ). frames records ++ (g ∷ behind_gate next ++ written.ignored)) open_gate in
          inr (inr (AllFit-last records next fits written.fits, gate_open records next file written.ignored is))
      | inr shut ↦ inl (inr (fits, record { gate = written.gate; ignored = behind_gate next ++ written.ignored; shut = shut; whole = written.whole }))
    ]

-- ---- writes

module _ (records : List (List ℕ)) (place : ℕ) (is_place : place ≡ length (frames records)) where
  -- behind the gate anything may be written
  pub closed_torn : (n : ℕ) (old new : List ℕ) → IsClosed records old → Torn (place + 1) n old new → IsClosed records new
  closed_torn n old new closed torn =
      let split : old ≡ (frames records ++ closed.gate ∷ []) ++ closed.ignored = closed.whole ∙ sym (append_assoc (frames records) (closed.gate ∷ []) closed.ignored) in
      let front_length : length (frames records ++ closed.gate ∷ []) ≡ place + 1 = omega (arith, is_place, length-append (frames records) (closed.gate ∷ [])) in
      let long : place + 1 ≤ length old = omega (arith, ap length split, length-append (frames records ++ closed.gate ∷ []) closed.ignored, front_length) in
      let front : take (place + 1) new ≡ frames records ++ closed.gate ∷ [] =
      Torn-front (place + 1) n old new long torn ∙ ap (λ (l : List ℕ). take (place + 1) l) split ∙ take_at (frames records ++ closed.gate ∷ []) closed.ignored (place + 1) front_length in
      record {
        gate = closed.gate;
        ignored = drop (place + 1) new;
        shut = closed.shut;
        whole = sym (take-append-drop (place + 1) new) ∙ ap (λ (l : List ℕ). l ++ drop (place + 1) new) front ∙ append_assoc (frames records) (closed.gate ∷ []) (drop (place + 1) new);
      }

  -- a record that was written behind it stands there
  pub closed_written : (next old new : List ℕ) → Fits next → IsClosed records old → Written (place + 1) (behind_gate next) old new → IsWritten records next new
  closed_written next old new fits closed written =
      let after = closed_torn (length (behind_gate next)) old new closed written.torn in
      let front_length : length (frames records ++ after.gate ∷ []) ≡ place + 1 = omega (arith, is_place, length-append (frames records) (after.gate ∷ [])) in
      let back : drop (place + 1) new ≡ after.ignored =
      ap (λ (l : List ℕ). drop (place + 1) l) (after.whole ∙ sym (append_assoc (frames records) (after.gate ∷ []) after.ignored)) ∙ drop_at (frames records ++ after.gate ∷ []) after.ignored (place + 1) front_length in
      let range : take (length (behind_gate next)) after.ignored ≡ behind_gate next = ap (λ (l : List ℕ). take (length (behind_gate next)) l) (sym back) ∙ written.range in
      record {
        fits = fits;
        gate = after.gate;
        ignored = drop (length (behind_gate next)) after.ignored;
        whole = after.whole ∙ ap (λ (l : List ℕ). frames records ++ (after.gate ∷ l)) (sym (take-append-drop (length (behind_gate next)) after.ignored) ∙ ap (λ (l : List ℕ). l ++ drop (length (behind_gate next)) after.ignored) range);
      }

  -- the gate is one byte, and the rest stays
  gate_of : (next old new : List ℕ) → (written : IsWritten records next old) → Torn place 1 old new → new ≡ frames records ++ (get_or new place 0 ∷ behind_gate next ++ written.ignored)
  gate_of next old new written torn =
      let rest = behind_gate next ++ written.ignored in
      let split : old ≡ (frames records ++ written.gate ∷ []) ++ rest = written.whole ∙ sym (append_assoc (frames records) (written.gate ∷ []) rest) in
      let front_length : length (frames records ++ written.gate ∷ []) ≡ place + 1 = omega (arith, is_place, length-append (frames records) (written.gate ∷ [])) in
      let long : place + 1 ≤ length old = omega (arith, ap length split, length-append (frames records ++ written.gate ∷ []) rest, front_length) in
      let front : take place new ≡ frames records =
      Torn-front place 1 old new (omega (arith, long)) torn ∙ ap (λ (l : List ℕ). take place l) written.whole ∙ take_at (frames records) (written.gate ∷ rest) place (sym is_place) in
      let back : drop (place + 1) new ≡ rest = torn.after ∙ ap (λ (l : List ℕ). drop (place + 1) l) split ∙ drop_at (frames records ++ written.gate ∷ []) rest (place + 1) front_length in
      let at_gate : drop place new ≡ get_or new place 0 ∷ rest = drop_more new place 0 (omega (arith, long, torn.no_shorter)) ∙ ap (λ (l : List ℕ). get_or new place 0 ∷ l) back in
      sym (take-append-drop place new) ∙ ap (λ (l : List ℕ). l ++ drop place new) front ∙ ap (λ (l : List ℕ). frames records ++ l) at_gate

  pub written_torn : (next old new : List ℕ) → IsWritten records next old → Torn place 1 old new → IsWritten records next new
  written_torn next old new written torn = record { fits = written.fits; gate = get_or new place 0; ignored = written.ignored; whole = gate_of next old new written torn }

  -- the gate that was written stands there
  pub gate_written : (next old new : List ℕ) (gate : ℕ) → (written : IsWritten records next old) → Written place (gate ∷ []) old new → new ≡ frames records ++ (gate ∷ behind_gate next ++ written.ignored)
  gate_written next old new gate written is_written =
      let rest = behind_gate next ++ written.ignored in
      let is = gate_of next old new written is_written.torn in
      let back : drop place new ≡ get_or new place 0 ∷ rest = ap (λ (l : List ℕ). drop place l) is ∙ drop_at (frames records) (get_or new place 0 ∷ rest) place (sym is_place) in
      let one : get_or new place 0 ∷ [] ≡ gate ∷ [] = ap (λ (l : List ℕ). take 1 l) (sym back) ∙ is_written.range in
      is ∙ ap (λ (l : List ℕ). frames records ++ (l ++ rest)) one
