-- What stands at a gate, by the bytes that were read of it.
use Rattle.std.proofs.Common.{◌≡◌, ◌≢◌, inl, inr, ℕ, suc, ◌+◌, ◌-◌, ◌^◌, ◌<◌, ◌≤◌, min, List, [], ◌∷◌, ◌++◌, length, get_or, take, drop, refl, sym, ◌∙◌, ap, subst, arith, append_assoc, length-append, length-drop, take-append-drop}
use Rattle.std.proofs.lemmas.Bool.{cases_lt}
use Rattle.std.proofs.lemmas.List.{take_at, drop_at, drop-drop, length-take, take_all, take_min, take-append-le}
use Rattle.std.proofs.lemmas.Nat.{be_bytes_8}
use Rattle.std.specs.Int.{w64, to_be_bytes, from_be_bytes}
use Rattle.sc_journal.specs.Format.{frames, IsClosed, IsBroken}
use Rattle.sc_journal.specs.Reading.{IsShut, HasNone, HasLength, HasRecord, TakenTo}
use Rattle.sc_journal.proofs.Files.{frames-last, length-frames_last, AllFit-last}
use Rattle.sc_journal.proofs.Looking.{take_more}
use Rattle.sc_journal.proofs.Lists.{AreBytes, short_none, cut_none, number_below}

-- ---- the first bytes

heads : (x y : ℕ) (xs ys : List ℕ) → x ∷ xs ≡ y ∷ ys → (x ≡ y) × (xs ≡ ys)
heads x y xs ys same = (cc, cc)

pub behind_of : (rest behind : List ℕ) → 1 ∷ behind ≡ take 9 rest → (rest ≡ 1 ∷ drop 1 rest) × (behind ≡ take 8 (drop 1 rest))
behind_of [] behind is = absurd (omega (arith, ap length is))
behind_of (x ∷ xs) behind is = let parts = heads 1 x behind (take 8 xs) is in (ap (λ (n : ℕ). n ∷ xs) (sym parts.0), parts.1)

-- with an open gate
pub opened : (front rest : List ℕ) → 1 ≤ length front → get_or front 0 0 ≡ 1 → front ≡ take 9 rest → 1 ∷ drop 1 front ≡ take 9 rest
opened [] rest some one is = absurd (omega (arith, some))
opened (x ∷ front) rest some one is = ap (λ (n : ℕ). n ∷ front) (sym one) ∙ is

pub AreBytes-rest : (bytes : List ℕ) → AreBytes bytes → AreBytes (drop 1 bytes)
AreBytes-rest [] are i = are i
AreBytes-rest (x ∷ bytes) are i = are (suc i)

pub shut_gate : (front rest : List ℕ) → front ≡ take 9 rest → 0 < length rest → (get_or front 0 0 ≢ 1) → IsShut rest
shut_gate front [] is some not = absurd (omega (arith, some))
shut_gate front (x ∷ xs) is some not = record { gate = x; ignored = xs; shut = λ one. not (ap (λ (l : List ℕ). get_or l 0 0) is ∙ one); is = refl }

pub short_gate : (rest behind : List ℕ) → 1 ∷ behind ≡ take 9 rest → length behind < 8 → HasNone rest
short_gate rest behind is short =
    let parts = behind_of rest behind is in
    record { behind = drop 1 rest; is = parts.0; none = short_none (drop 1 rest) (omega (arith, short, ap length parts.1, length-take 8 (drop 1 rest))) }

pub cut_gate : (rest behind : List ℕ) (size : ℕ) → 1 ∷ behind ≡ take 9 rest → 8 ≤ length behind → size ≡ from_be_bytes w64 (take 8 behind) → length rest - 9 ≤ size → HasNone rest
cut_gate rest behind size is long number cut =
    let parts = behind_of rest behind is in
    let same : take 8 behind ≡ take 8 (drop 1 rest) = take_all 8 behind (omega (arith, ap length parts.1, length-take 8 (drop 1 rest))) ∙ parts.1 in
    record {
      behind = drop 1 rest;
      is = parts.0;
      none = cut_none (drop 1 rest) (omega (arith, cut, number, ap (λ (l : List ℕ). from_be_bytes w64 l) same, length-drop 8 (drop 1 rest), length-drop 1 rest));
    }

pub open_gate_at : (rest behind : List ℕ) (size : ℕ) → AreBytes behind → 1 ∷ behind ≡ take 9 rest → 8 ≤ length behind → size ≡ from_be_bytes w64 (take 8 behind) → size < length rest - 9 → HasLength size rest
open_gate_at rest behind size are is long number within =
    let parts = behind_of rest behind is in
    let all : take 8 behind ≡ behind = take_all 8 behind (omega (arith, ap length parts.1, length-take 8 (drop 1 rest))) in
    let eight : length behind ≡ 8 = omega (arith, long, ap length parts.1, length-take 8 (drop 1 rest)) in
    let number_is : size ≡ from_be_bytes w64 behind = number ∙ ap (λ (l : List ℕ). from_be_bytes w64 l) all in
    record {
      front = sym is ∙ ap (λ (l : List ℕ). 1 ∷ l) (sym (be_bytes_8 behind size eight are number_is));
      fits = omega (arith, number_is, number_below behind are);
      whole = omega (arith, within);
    }

-- ---- filling a buffer

-- a piece more was read into it
pub fill_more : (buf piece file : List ℕ) (filled count at : ℕ) → filled ≤ length buf → take filled buf ≡ take filled (drop at file) → take count piece ≡ take count (drop (at + filled) file) → take (filled + count) (take filled buf ++ piece) ≡ take (filled + count) (drop at file)
fill_more buf piece file filled count at within so_far read =
    let size : length (take filled buf) ≡ filled = omega (arith, within, length-take filled buf) in
    take_more filled count (take filled buf ++ piece)
    ∙ (λ i. take_at (take filled buf) piece filled size i ++ take count (drop_at (take filled buf) piece filled size i))
    ∙ (λ i. so_far i ++ read i)
    ∙ ap (λ (l : List ℕ). take filled (drop at file) ++ take count l) (sym (drop-drop filled at file))
    ∙ sym (take_more filled count (drop at file))

filled_most : (buf file : List ℕ) (filled at : ℕ) → filled ≤ length buf → take filled buf ≡ take filled (drop at file) → filled ≤ length file - at
filled_most buf file filled at within is = omega (arith, within, ap length is, length-take filled buf, length-take filled (drop at file), length-drop at file)

-- the disk gave no more
pub all_stopped : (buf file : List ℕ) (filled at count : ℕ) → filled < length buf → take filled buf ≡ take filled (drop at file) → count ≡ 0 → (at + filled < length file → 0 < count) → filled ≡ min (length buf) (length file - at)
all_stopped buf file filled at count within is none some =
    let most = filled_most buf file filled at (omega (arith, within)) is in
    elim (cases_lt (at + filled) (length file)) [
      | inl lt ↦ absurd (omega (arith, none, some lt))
      | inr le ↦ omega (arith, within, most, le)
    ]

-- the buffer is full
pub all_full : (buf file : List ℕ) (filled at : ℕ) → filled ≡ length buf → take filled buf ≡ take filled (drop at file) → filled ≡ min (length buf) (length file - at)
all_full buf file filled at full is = omega (arith, full, filled_most buf file filled at (omega (arith, full)) is)

-- the first bytes of what is left were read
pub front_read : (buf behind file : List ℕ) (n at : ℕ) → length buf ≡ min (length file - at) 9 → n ≡ min (length buf) (length file - at) → take n buf ≡ take n (drop at file) → take n (buf ++ behind) ≡ take 9 (drop at file)
front_read buf behind file n at size count is =
    let small : n ≡ min 9 (length (drop at file)) = omega (arith, size, count, length-drop at file) in
    take-append-le n buf behind (omega (arith, count)) ∙ is ∙ ap (λ (k : ℕ). take k (drop at file)) small ∙ take_min 9 (drop at file)

-- ---- one record

pub record_at : (rest payload : List ℕ) (size : ℕ) → HasLength size rest → size ≡ length payload → payload ≡ take size (drop 9 rest) → HasRecord payload rest
record_at rest payload size has count is =
    let after = drop size (drop 9 rest) in
    let front : take 9 rest ≡ 1 ∷ to_be_bytes w64 (length payload) = has.front ∙ ap (λ (n : ℕ). 1 ∷ to_be_bytes w64 n) count in
    let back : drop 9 rest ≡ payload ++ after = sym (take-append-drop size (drop 9 rest)) ∙ ap (λ (l : List ℕ). l ++ after) (sym is) in
    record {
      after = after;
      is = sym (take-append-drop 9 rest) ∙ (λ i. front i ++ back i) ∙ sym (append_assoc (1 ∷ to_be_bytes w64 (length payload)) payload after);
      some = omega (arith, has.whole, length-drop size (drop 9 rest), length-drop 9 rest);
    }

-- a buffer was filled with the payload
pub record_read : (buf behind file : List ℕ) (size count place len : ℕ) → HasLength size (drop place file) → size ≡ length buf → count ≡ length buf → take count buf ≡ take count (drop (place + 9) file) → length buf ≡ len → HasRecord (take len (buf ++ behind)) (drop place file)
record_read buf behind file size count place len has size_is full read same =
    let is : buf ≡ take size (drop 9 (drop place file)) =
    sym (take_all count buf (omega (arith, full))) ∙ read ∙ ap (λ (k : ℕ). take k (drop (place + 9) file)) (full ∙ sym size_is) ∙ ap (λ (l : List ℕ). take size l) (sym (drop-drop 9 place file)) in
    subst (λ (l : List ℕ). HasRecord l (drop place file)) (sym (take_at buf behind len same)) (record_at (drop place file) buf size has size_is is)

-- ---- all records

module _ {T : Type 0} (took : T → List (List ℕ) → Type 0) where
  pub taken_none : (taker : T) (told : Type 0) (file : List ℕ) → took taker [] → TakenTo took taker 0 0 told file
  taken_none taker told file new = record { records = []; taken = new; place_is = refl; count_is = refl; fits = tt; rest = λ t. refl }

  -- one record more
  pub taken_more : (old new : T) (place count size : ℕ) (was is : Type 0) (file payload : List ℕ) → (so_far : TakenTo took old place count was file) → ((records : List (List ℕ)) → took old records → took new (records ++ payload ∷ [])) → size ≡ length payload → size < 2 ^ 64 → (is → was) → (is → HasRecord payload (drop place file)) → TakenTo took new (place + (9 + size)) (count + 1) is file
  taken_more old new place count size was is file payload so_far take size_is fits before has =
      let records = so_far.records in
      let length_is = length-frames_last records payload in
      let place_is : place + (9 + size) ≡ length (frames (records ++ payload ∷ [])) = omega (arith, so_far.place_is, size_is, length_is) in
      record {
        records = records ++ payload ∷ [];
        taken = take records so_far.taken;
        place_is = place_is;
        count_is = omega (arith, so_far.count_is, length-append records (payload ∷ []));
        fits = AllFit-last records payload so_far.fits (omega (arith, size_is, fits));
        rest = λ t.
            let one = has t in
            let whole : file ≡ frames (records ++ payload ∷ []) ++ one.after = so_far.rest (before t) ∙ ap (λ (l : List ℕ). frames records ++ l) one.is ∙ sym (frames-last records payload one.after) in
            whole ∙ ap (λ (l : List ℕ). frames (records ++ payload ∷ []) ++ l) (sym (ap (λ (l : List ℕ). drop (place + (9 + size)) l) whole ∙ drop_at (frames (records ++ payload ∷ [])) one.after (place + (9 + size)) (sym place_is)));
      }

  pub ends_closed : (taker : T) (place count : ℕ) (told : Type 0) (file : List ℕ) → (so_far : TakenTo took taker place count told file) → told → IsShut (drop place file) → IsClosed so_far.records file
  ends_closed taker place count told file so_far t shut = record {
    gate = shut.gate;
    ignored = shut.ignored;
    shut = shut.shut;
    whole = so_far.rest t ∙ ap (λ (l : List ℕ). frames so_far.records ++ l) shut.is;
  }

  pub ends_broken : (taker : T) (place count : ℕ) (told : Type 0) (file : List ℕ) → (so_far : TakenTo took taker place count told file) → told → 1 < length file → HasNone (drop place file) → IsBroken file so_far.records
  ends_broken taker place count told file so_far t long none = record {
    long = long;
    fits = so_far.fits;
    behind = none.behind;
    split = so_far.rest t ∙ ap (λ (l : List ℕ). frames so_far.records ++ l) none.is;
    broken = none.none;
  }
