-- One file has one list of records, or one first bad record.
use Rattle.std.proofs.Common.{◌≡◌, inl, inr, ℕ, ◌^◌, ◌<◌, ◌≤◌, List, [], ◌∷◌, ◌++◌, length, get_or, take, drop, refl, sym, ◌∙◌, ap, arith, append_assoc, length-append, take-append-drop, length-drop}
use Rattle.std.proofs.lemmas.Bool.{cases_lt}
use Rattle.std.proofs.lemmas.List.{take_at, drop_at, length-take, get_or-take, get_or_past}
use Rattle.std.proofs.lemmas.Nat.{be_bytes_8, from_be_bytes-to_be_bytes_8}
use Rattle.std.specs.Int.{w64, to_be_bytes, from_be_bytes}
use Rattle.sc_journal.specs.Format.{counted, framed, frames, Fits, AllFit, IsClosed, HasRecords, IsNoRecord, IsBroken}
use Rattle.sc_journal.proofs.Files.{length-counted}

-- ---- one record

-- a number of eight bytes is read off the front
number_one : (m n : ℕ) (xs ys : List ℕ) → m < 2 ^ 64 → n < 2 ^ 64 → to_be_bytes w64 m ++ xs ≡ to_be_bytes w64 n ++ ys → (m ≡ n) × (xs ≡ ys)
number_one m n xs ys m_fits n_fits same =
    let fronts : to_be_bytes w64 m ≡ to_be_bytes w64 n = sym (take_at (to_be_bytes w64 m) xs 8 refl) ∙ ap (λ (l : List ℕ). take 8 l) same ∙ take_at (to_be_bytes w64 n) ys 8 refl in
    let rests : xs ≡ ys = sym (drop_at (to_be_bytes w64 m) xs 8 refl) ∙ ap (λ (l : List ℕ). drop 8 l) same ∙ drop_at (to_be_bytes w64 n) ys 8 refl in (
      sym (from_be_bytes-to_be_bytes_8 m m_fits) ∙ ap (λ (l : List ℕ). from_be_bytes w64 l) fronts ∙ from_be_bytes-to_be_bytes_8 n n_fits,
      rests,
    )

pub counted_one : (p q xs ys : List ℕ) → Fits p → Fits q → counted p ++ xs ≡ counted q ++ ys → (p ≡ q) × (xs ≡ ys)
counted_one p q xs ys p_fits q_fits same =
    let split : to_be_bytes w64 (length p) ++ (p ++ xs) ≡ to_be_bytes w64 (length q) ++ (q ++ ys) =
    sym (append_assoc (to_be_bytes w64 (length p)) p xs) ∙ same ∙ append_assoc (to_be_bytes w64 (length q)) q ys in
    let number = number_one (length p) (length q) (p ++ xs) (q ++ ys) p_fits q_fits split in (
      sym (take_at p xs (length p) refl) ∙ ap (λ (l : List ℕ). take (length p) l) number.1 ∙ take_at q ys (length p) (sym number.0),
      sym (drop_at p xs (length p) refl) ∙ ap (λ (l : List ℕ). drop (length p) l) number.1 ∙ drop_at q ys (length p) (sym number.0),
    )

-- ---- all records

rest_of : (x y : ℕ) (xs ys : List ℕ) → x ∷ xs ≡ y ∷ ys → (x ≡ y) × (xs ≡ ys)
rest_of x y xs ys same = (cc, cc)

-- a gate stands behind any records
starts : (records : List (List ℕ)) (gate : ℕ) (rest : List ℕ) → (g : ℕ) × (r : List ℕ) × (frames records ++ (gate ∷ rest) ≡ g ∷ r)
starts [] gate rest = (gate, rest, refl)
starts (p ∷ records) gate rest = (1, counted p ++ frames records ++ (gate ∷ rest), refl)

front : (p : List ℕ) (records : List (List ℕ)) (end : List ℕ) → frames (p ∷ records) ++ end ≡ 1 ∷ (counted p ++ (frames records ++ end))
front p records end = append_assoc (framed p) (frames records) end

-- where the records end, none begins
no_more : (q : List ℕ) (records : List (List ℕ)) (g h : ℕ) (r s : List ℕ) → Fits q → g ∷ r ≡ frames (q ∷ records) ++ (h ∷ s) → (g ≡ 1 → IsNoRecord r) → ⊥
no_more q records g h r s fits same none =
    let parts = rest_of g 1 r (counted q ++ (frames records ++ (h ∷ s))) (same ∙ front q records (h ∷ s)) in
    let begins = starts records h s in
    none parts.0 q begins.0 begins.1 fits (parts.1 ∙ ap (λ (l : List ℕ). counted q ++ l) begins.2)

pub ends_one : (ps qs : List (List ℕ)) (g h : ℕ) (r s : List ℕ) → AllFit ps → AllFit qs → frames ps ++ (g ∷ r) ≡ frames qs ++ (h ∷ s) → (g ≡ 1 → IsNoRecord r) → (h ≡ 1 → IsNoRecord s) → (ps ≡ qs) × (g ≡ h)
ends_one [] [] g h r s p_fits q_fits same none more = (refl, (rest_of g h r s same).0)
ends_one [] (q ∷ qs) g h r s p_fits q_fits same none more = absurd (no_more q qs g h r s q_fits.0 same none)
ends_one (p ∷ ps) [] g h r s p_fits q_fits same none more = absurd (no_more p ps h g s r p_fits.0 (sym same) more)
ends_one (p ∷ ps) (q ∷ qs) g h r s p_fits q_fits same none more =
    let split = rest_of 1 1 (counted p ++ (frames ps ++ (g ∷ r))) (counted q ++ (frames qs ++ (h ∷ s))) (sym (front p ps (g ∷ r)) ∙ same ∙ front q qs (h ∷ s)) in
    let one = counted_one p q (frames ps ++ (g ∷ r)) (frames qs ++ (h ∷ s)) p_fits.0 q_fits.0 split.1 in
    let others = ends_one ps qs g h r s p_fits.1 q_fits.1 one.1 none more in
    (λ i. one.0 i ∷ others.0 i, others.1)

-- a short file has no record
short_closed : (records : List (List ℕ)) (file : List ℕ) → length file ≤ 1 → IsClosed records file → records ≡ []
short_closed [] file short closed = refl
short_closed (p ∷ records) file short closed =
    absurd (omega (arith, short, ap length (closed.whole ∙ front p records (closed.gate ∷ closed.ignored)), length-append (counted p) (frames records ++ (closed.gate ∷ closed.ignored)), length-counted p))

pub one_closed : (file : List ℕ) (some others : List (List ℕ)) → AllFit some → AllFit others → IsClosed some file → IsClosed others file → some ≡ others
one_closed file some others some_fit others_fit a b =
    (ends_one some others a.gate b.gate a.ignored b.ignored some_fit others_fit (sym a.whole ∙ b.whole) (λ is. absurd (a.shut is)) (λ is. absurd (b.shut is))).0

pub one_records : (file : List ℕ) (some others : List (List ℕ)) → HasRecords file some → HasRecords file others → some ≡ others
one_records file some others (inl a) (inl b) = a.1 ∙ sym b.1
one_records file some others (inl a) (inr b) = a.1 ∙ sym (short_closed others file a.0 b.1)
one_records file some others (inr a) (inl b) = short_closed some file b.0 a.1 ∙ sym b.1
one_records file some others (inr a) (inr b) = one_closed file some others a.0 b.0 a.1 b.1

pub not_both : (file : List ℕ) (some others : List (List ℕ)) → HasRecords file some → IsBroken file others → ⊥
not_both file some others (inl a) b = omega (arith, a.0, b.long)
not_both file some others (inr a) b =
    a.1.shut (ends_one some others a.1.gate 1 a.1.ignored b.behind a.0 b.fits (sym a.1.whole ∙ b.split) (λ is. absurd (a.1.shut is)) (λ is. b.broken)).1

pub one_broken : (file : List ℕ) (some others : List (List ℕ)) → IsBroken file some → IsBroken file others → some ≡ others
one_broken file some others a b = (ends_one some others 1 1 a.behind b.behind a.fits b.fits (sym a.split ∙ b.split) (λ is. a.broken) (λ is. b.broken)).0

-- ---- reading one record

abbrev pub AreBytes : List ℕ → Type 0
AreBytes bytes = (i : ℕ) → get_or bytes i 0 < 256

pub short_none : (bytes : List ℕ) → length bytes < 8 → IsNoRecord bytes
short_none bytes short = λ payload gate rest fits same. omega (arith, short, ap length same, length-append (counted payload) (gate ∷ rest), length-counted payload)

pub cut_none : (bytes : List ℕ) → length (drop 8 bytes) ≤ from_be_bytes w64 (take 8 bytes) → IsNoRecord bytes
cut_none bytes cut = λ payload gate rest fits same.
    let split : bytes ≡ to_be_bytes w64 (length payload) ++ (payload ++ (gate ∷ rest)) = same ∙ append_assoc (to_be_bytes w64 (length payload)) payload (gate ∷ rest) in
    let front : take 8 bytes ≡ to_be_bytes w64 (length payload) = ap (λ (l : List ℕ). take 8 l) split ∙ take_at (to_be_bytes w64 (length payload)) (payload ++ (gate ∷ rest)) 8 refl in
    let back : drop 8 bytes ≡ payload ++ (gate ∷ rest) = ap (λ (l : List ℕ). drop 8 l) split ∙ drop_at (to_be_bytes w64 (length payload)) (payload ++ (gate ∷ rest)) 8 refl in
    let size : from_be_bytes w64 (take 8 bytes) ≡ length payload = ap (λ (l : List ℕ). from_be_bytes w64 l) front ∙ from_be_bytes-to_be_bytes_8 (length payload) fits in
    omega (arith, cut, size, ap length back, length-append payload (gate ∷ rest))

-- a record that is whole
pub whole_record : (bytes : List ℕ) (n : ℕ) (payload after : List ℕ) → 8 ≤ length bytes → AreBytes (take 8 bytes) → n ≡ from_be_bytes w64 (take 8 bytes) → payload ≡ take n (drop 8 bytes) → after ≡ drop n (drop 8 bytes) → n < length (drop 8 bytes) → bytes ≡ counted payload ++ after
whole_record bytes n payload after long are size front back within =
    let count : length payload ≡ n = omega (arith, within, ap length front, length-take n (drop 8 bytes)) in
    let number : to_be_bytes w64 (length payload) ≡ take 8 bytes = be_bytes_8 (take 8 bytes) (length payload) (omega (arith, long, length-take 8 bytes)) are (count ∙ size) in
    let rest : drop 8 bytes ≡ payload ++ after = sym (take-append-drop n (drop 8 bytes)) ∙ (λ i. sym front i ++ sym back i) in
    sym (take-append-drop 8 bytes) ∙ (λ i. sym number i ++ rest i) ∙ sym (append_assoc (to_be_bytes w64 (length payload)) payload after)

pub after_some : (n : ℕ) (bytes after : List ℕ) → after ≡ drop n bytes → n < length bytes → 0 < length after
after_some n bytes after is within = omega (arith, within, ap length is, length-drop n bytes)

pub AreBytes-take : (n : ℕ) (bytes : List ℕ) → AreBytes bytes → AreBytes (take n bytes)
AreBytes-take n bytes are i =
    elim (cases_lt i n) [
      | inl lt ↦ rw (get_or-take n bytes i 0 lt) (are i)
      | inr le ↦ rw (get_or_past (take n bytes) i 0 (omega (arith, length-take n bytes))) (omega arith)
    ]

pub number_below : (bytes : List ℕ) → AreBytes bytes → from_be_bytes w64 bytes < 2 ^ 64
number_below bytes are = omega (arith, are 0, are 1, are 2, are 3, are 4, are 5, are 6, are 7)
