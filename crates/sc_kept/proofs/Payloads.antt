-- A payload is its kind, a number and its fields.
use Rattle.std.proofs.Common.{◌≡◌, ℕ, zero, suc, ◌-◌, ◌<◌, ◌≤◌, List, [], ◌∷◌, ◌++◌, length, take, drop, get_or, refl, sym, ◌∙◌, ap, subst, arith, length-append}
use Rattle.std.specs.Prelude.{All, IsUtf8}
use Rattle.std.specs.List.{flat_map}
use Rattle.std.specs.Int.{w32, to_be_bytes, from_be_bytes}
use Rattle.std.proofs.lemmas.List.{take_all, length-drop}
use Rattle.std.proofs.lemmas.Nat.{be_bytes_4}
use Rattle.sc_journal.specs.Format.{counted, AllFit}
use Rattle.sc_journal.proofs.Files.{length-counted}
use Rattle.sc_journal.proofs.Lists.{counted_one}
use Rattle.sc_load.specs.declared.load.Load.{Load}
use Rattle.sc_kept.specs.Record.{AreFields, IsNoPayload, IsNotTold, IsPayload, IsTold, fields_of}

some_field : (field rest : List ℕ) → [] ≡ counted field ++ rest → ⊥
some_field field rest same = omega (arith, ap length same, length-append (counted field) rest, length-counted field)

one_fields : (xs ys : List (List ℕ)) → AllFit xs → AllFit ys → flat_map counted xs ≡ flat_map counted ys → xs ≡ ys
one_fields [] [] p q same = refl
one_fields [] (y ∷ ys) p q same = absurd (some_field y (flat_map counted ys) same)
one_fields (x ∷ xs) [] p q same = absurd (some_field x (flat_map counted xs) (sym same))
one_fields (x ∷ xs) (y ∷ ys) p q same =
    let one = counted_one x y (flat_map counted xs) (flat_map counted ys) p.0 q.0 same in
    let rest = one_fields xs ys p.1 q.1 one.1 in
    λ i. one.0 i ∷ rest i

four : (a b c d : ℕ) → a < 256 → b < 256 → c < 256 → d < 256 → (i : ℕ) → get_or (a ∷ b ∷ c ∷ d ∷ []) i 0 < 256
four a b c d p q r s zero = p
four a b c d p q r s (suc zero) = q
four a b c d p q r s (suc (suc zero)) = r
four a b c d p q r s (suc (suc (suc zero))) = s
four a b c d p q r s (suc (suc (suc (suc i)))) = omega arith

pub is_payload : (bytes : List ℕ) (by : ℕ) (load : Load) (fields : List (List ℕ)) → 5 ≤ length bytes → ((i : ℕ) → get_or bytes i 0 < 256) →
    by ≡ from_be_bytes w32 (get_or bytes 1 0 ∷ get_or bytes 2 0 ∷ get_or bytes 3 0 ∷ get_or bytes 4 0 ∷ []) → AreFields (take (length bytes - 5) (drop 5 bytes)) fields →
    IsTold (get_or bytes 0 0) fields load → IsPayload bytes (record { by = by; load = load })
is_payload [] by load fields long small number are told = absurd (omega (arith, long))
is_payload (k ∷ []) by load fields long small number are told = absurd (omega (arith, long))
is_payload (k ∷ a ∷ []) by load fields long small number are told = absurd (omega (arith, long))
is_payload (k ∷ a ∷ b ∷ []) by load fields long small number are told = absurd (omega (arith, long))
is_payload (k ∷ a ∷ b ∷ c ∷ []) by load fields long small number are told = absurd (omega (arith, long))
is_payload (k ∷ a ∷ b ∷ c ∷ d ∷ rest) by load fields long small number are told =
    let whole : take (length (k ∷ a ∷ b ∷ c ∷ d ∷ rest) - 5) rest ≡ rest = take_all (length (k ∷ a ∷ b ∷ c ∷ d ∷ rest) - 5) rest (omega arith) in
    let fields_are : rest ≡ flat_map counted (fields_of load) = sym whole ∙ are.are ∙ ap (λ (l : List (List ℕ)). flat_map counted l) told.fields_are in
    let written : to_be_bytes w32 by ≡ a ∷ b ∷ c ∷ d ∷ [] = be_bytes_4 (a ∷ b ∷ c ∷ d ∷ []) by refl (four a b c d (small 1) (small 2) (small 3) (small 4)) number in
    record {
      is = λ i. told.kind_is i ∷ (sym written i ++ fields_are i);
      sealable = record {
        held = record { texts = subst (All IsUtf8) told.fields_are are.texts; fits = subst AllFit told.fields_are are.fits; items = told.items };
        by_fits = omega (arith, number, small 1, small 2, small 3, small 4);
      };
      formed = told.formed;
    }

pub no_payload : (bytes : List ℕ) (fields : List (List ℕ)) → AreFields (take (length bytes - 5) (drop 5 bytes)) fields → IsNotTold (get_or bytes 0 0) fields → IsNoPayload bytes
no_payload bytes fields are none = λ entry p.
    let whole = take_all (length bytes - 5) (drop 5 bytes) (omega (arith, length-drop 5 bytes)) in
    let same : flat_map counted fields ≡ flat_map counted (fields_of entry.load) = sym are.are ∙ whole ∙ ap (λ (l : List ℕ). drop 5 l) p.is in
    none entry.load
    (record {
      kind_is = ap (λ (l : List ℕ). get_or l 0 0) p.is;
      fields_are = one_fields fields (fields_of entry.load) are.fits p.sealable.held.fits same;
      items = p.sealable.held.items;
      formed = p.formed;
    })
