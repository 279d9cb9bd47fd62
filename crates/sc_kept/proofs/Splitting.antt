-- Fields one behind the other.
use Rattle.std.proofs.Common.{◌≡◌, ℕ, ◌<◌, ◌≤◌, List, [], ◌∷◌, ◌++◌, length, take, drop, refl, sym, ◌∙◌, ap, subst, arith, append_assoc, length-append, take-append-drop}
use Rattle.std.specs.Prelude.{All, IsUtf8}
use Rattle.std.specs.List.{flat_map}
use Rattle.std.specs.Int.{w64, to_be_bytes, from_be_bytes}
use Rattle.std.proofs.lemmas.List.{append-nil, take_at, drop_at, length-take}
use Rattle.std.proofs.lemmas.List.Concat.{flat_map-append}
use Rattle.std.proofs.lemmas.List.Elements.{All-nil, All-head, All-tail, All-append, All-push}
use Rattle.std.proofs.lemmas.Nat.{be_bytes_8, from_be_bytes-to_be_bytes_8}
use Rattle.sc_journal.specs.Format.{counted, AllFit}
use Rattle.sc_journal.proofs.Files.{length-counted, AllFit-last}
use Rattle.sc_journal.proofs.Lists.{AreBytes, counted_one, number_below}
use Rattle.sc_kept.specs.Record.{AddsFields, AreFields, AreNoFields, BeginsWith, BeginsWithNone}

-- ---- adding

AllFit-append : (xs ys : List (List ℕ)) → AllFit xs → AllFit ys → AllFit (xs ++ ys)
AllFit-append [] ys a b = b
AllFit-append (x ∷ xs) ys a b = (a.0, AllFit-append xs ys a.1 b)

pub adds_none : (out : List ℕ) → AddsFields out out []
adds_none out = record { added = []; whole = sym (append-nil out); fields_are = record { are = refl; texts = All-nil IsUtf8; fits = tt } }

pub adds_both : (a b c : List ℕ) (fs gs : List (List ℕ)) → AddsFields a b fs → AddsFields b c gs → AddsFields a c (fs ++ gs)
adds_both a b c fs gs p q = record {
  added = p.added ++ q.added;
  whole = q.whole ∙ ap (λ (l : List ℕ). l ++ q.added) p.whole ∙ append_assoc a p.added q.added;
  fields_are = record {
    are = (λ i. p.fields_are.are i ++ q.fields_are.are i) ∙ sym (flat_map-append counted fs gs);
    texts = All-append IsUtf8 fs gs p.fields_are.texts q.fields_are.texts;
    fits = AllFit-append fs gs p.fields_are.fits q.fields_are.fits;
  };
}

-- ---- one field

pub too_short : (bytes : List ℕ) → length bytes < 8 → BeginsWithNone bytes
too_short bytes short = λ field rest b. omega (arith, short, ap length b.split, length-append (counted field) rest, length-counted field)

pub cut_none : (bytes : List ℕ) → length (drop 8 bytes) < from_be_bytes w64 (take 8 bytes) → BeginsWithNone bytes
cut_none bytes cut = λ field rest b.
    let split : bytes ≡ to_be_bytes w64 (length field) ++ (field ++ rest) = b.split ∙ append_assoc (to_be_bytes w64 (length field)) field rest in
    let front : take 8 bytes ≡ to_be_bytes w64 (length field) = ap (λ (l : List ℕ). take 8 l) split ∙ take_at (to_be_bytes w64 (length field)) (field ++ rest) 8 refl in
    let back : drop 8 bytes ≡ field ++ rest = ap (λ (l : List ℕ). drop 8 l) split ∙ drop_at (to_be_bytes w64 (length field)) (field ++ rest) 8 refl in
    let size : from_be_bytes w64 (take 8 bytes) ≡ length field = ap (λ (l : List ℕ). from_be_bytes w64 l) front ∙ from_be_bytes-to_be_bytes_8 (length field) b.fits in
    omega (arith, cut, size, ap length back, length-append field rest)

pub whole_field : (bytes : List ℕ) (n : ℕ) (field after : List ℕ) → 8 ≤ length bytes → AreBytes (take 8 bytes) → n ≡ from_be_bytes w64 (take 8 bytes) → field ≡ take n (drop 8 bytes) → after ≡ drop n (drop 8 bytes) → n ≤ length (drop 8 bytes) → BeginsWith bytes field after
whole_field bytes n field after long are size front back within =
    let count : length field ≡ n = omega (arith, within, ap length front, length-take n (drop 8 bytes)) in
    let number : to_be_bytes w64 (length field) ≡ take 8 bytes = be_bytes_8 (take 8 bytes) (length field) (omega (arith, long, length-take 8 bytes)) are (count ∙ size) in
    let rest : drop 8 bytes ≡ field ++ after = sym (take-append-drop n (drop 8 bytes)) ∙ (λ i. sym front i ++ sym back i) in
    record {
      split = sym (take-append-drop 8 bytes) ∙ (λ i. sym number i ++ rest i) ∙ sym (append_assoc (to_be_bytes w64 (length field)) field after);
      fits = omega (arith, count, size, number_below (take 8 bytes) are);
    }

-- ---- fields that were read, and what is left

pub record AreRead (bytes : List ℕ) (fields : List (List ℕ)) (rest : List ℕ) : Type 0 where
  pub split : bytes ≡ flat_map counted fields ++ rest
  pub texts : All IsUtf8 fields
  pub fits : AllFit fields

pub read_none : (bytes : List ℕ) → AreRead bytes [] bytes
read_none bytes = record { split = refl; texts = All-nil IsUtf8; fits = tt }

pub read_one : (bytes rest after field : List ℕ) (fields : List (List ℕ)) → AreRead bytes fields rest → BeginsWith rest field after → IsUtf8 field → AreRead bytes (fields ++ field ∷ []) after
read_one bytes rest after field fields so begins text = record {
  split =
      so.split ∙ ap (λ (l : List ℕ). flat_map counted fields ++ l) begins.split ∙ sym (append_assoc (flat_map counted fields) (counted field) after)
      ∙ ap (λ (l : List ℕ). l ++ after) (ap (λ (l : List ℕ). flat_map counted fields ++ l) (sym (append-nil (counted field))) ∙ sym (flat_map-append counted fields (field ∷ [])));
  texts = All-push IsUtf8 fields field so.texts text;
  fits = AllFit-last fields field so.fits begins.fits;
}

pub read_all : (bytes rest : List ℕ) (fields : List (List ℕ)) → AreRead bytes fields rest → length rest ≡ 0 → AreFields bytes fields
read_all bytes [] fields so none = record { are = so.split ∙ append-nil (flat_map counted fields); texts = so.texts; fits = so.fits }
read_all bytes (x ∷ rest) fields so none = absurd (omega (arith, none))

-- what is left of fields behind those that were read
record AreLeft (rest : List ℕ) : Type 0 where
  pub fields : List (List ℕ)
  pub are : AreFields rest fields

too_many : (done : List ℕ) (more rest : List ℕ) → [] ≡ (counted done ++ more) ++ rest → ⊥
too_many done more rest same = omega (arith, ap length same, length-append (counted done ++ more) rest, length-append (counted done) more, length-counted done)

left : (done all : List (List ℕ)) (rest : List ℕ) → AllFit done → AllFit all → All IsUtf8 all → flat_map counted all ≡ flat_map counted done ++ rest → AreLeft rest
left [] all rest done_fit all_fit texts same = record { fields = all; are = record { are = sym same; texts = texts; fits = all_fit } }
left (d ∷ done) [] rest done_fit all_fit texts same = absurd (too_many d (flat_map counted done) rest same)
left (d ∷ done) (a ∷ all) rest done_fit all_fit texts same =
    let one = counted_one a d (flat_map counted all) (flat_map counted done ++ rest) all_fit.0 done_fit.0 (same ∙ append_assoc (counted d) (flat_map counted done) rest) in
    left done all rest done_fit.1 all_fit.1 (All-tail IsUtf8 a all texts) one.1

left_of : (bytes rest : List ℕ) (read fields : List (List ℕ)) → AreRead bytes read rest → AreFields bytes fields → AreLeft rest
left_of bytes rest read fields so are = left read fields rest so.fits are.fits are.texts (sym are.are ∙ so.split)

-- what is left begins with a field, which is a text
begins : (rest : List ℕ) (fields : List (List ℕ)) → AreFields rest fields → 0 < length rest → (field after : List ℕ) × (BeginsWith rest field after × IsUtf8 field)
begins rest [] are some = absurd (omega (arith, some, ap length are.are))
begins rest (f ∷ fields) are some = (f, flat_map counted fields, (record { split = are.are; fits = are.fits.0 }, All-head IsUtf8 f fields are.texts))

pub none_begins : (bytes rest : List ℕ) (read : List (List ℕ)) → AreRead bytes read rest → 0 < length rest → BeginsWithNone rest → AreNoFields bytes
none_begins bytes rest read so some none = λ fields are.
    let l = left_of bytes rest read fields so are in
    let b = begins rest l.fields l.are some in
    none b.0 b.1 b.2.0

pub no_text : (bytes rest field after : List ℕ) (read : List (List ℕ)) → AreRead bytes read rest → BeginsWith rest field after → (IsUtf8 field → ⊥) → AreNoFields bytes
no_text bytes rest field after read so here bad = λ fields are.
    let l = left_of bytes rest read fields so are in
    let some : 0 < length rest = omega (arith, ap length here.split, length-append (counted field) after, length-counted field) in
    let b = begins rest l.fields l.are some in
    let same = counted_one b.0 field b.1 after b.2.0.fits here.fits (sym b.2.0.split ∙ here.split) in
    bad (subst IsUtf8 same.0 b.2.1)
