-- Texts in quotes, as they are written.
use Rattle.std.proofs.Common.{◌≡◌, ℕ, ◌+◌, ◌<◌, List, [], ◌∷◌, ◌++◌, length, take, drop, get_or, true, false, eqb, leb, ◌&&◌, not, refl, sym, ap, ◌∙◌, append_assoc, add-one, drop-cons, arith}
use Rattle.std.proofs.lemmas.Bool.Decides.{nat_tests}
use Rattle.std.proofs.lemmas.List.{take-append-drop, take_all}
use Rattle.std.specs.List.{list_all, flat_map, slice_range}
use Rattle.sc_json.specs.Pieces.{is_plain_byte}
use Rattle.sc_json.specs.Compact.{escaped, quoted}
use Rattle.sc_json.proofs.RunsOn.{and_both, not_false, not_control}

-- a byte above the control characters is none of these
is_above : (b : ℕ) → leb 32 b ≡ true → (eqb b 8 ≡ false) × (eqb b 9 ≡ false) × (eqb b 10 ≡ false) × (eqb b 12 ≡ false) × (eqb b 13 ≡ false)
is_above b h = (grind (arith, nat_tests), grind (arith, nat_tests), grind (arith, nat_tests), grind (arith, nat_tests), grind (arith, nat_tests))

pub plain_escaped : (b : ℕ) → is_plain_byte b ≡ true → escaped b ≡ b ∷ []
unfolding escaped
plain_escaped b h =
    let outer = and_both (leb 32 b && not (eqb b 34)) (not (eqb b 92)) h in
    let inner = and_both (leb 32 b) (not (eqb b 34)) outer.0 in
    let above = is_above b inner.0 in
    rw (not_false (eqb b 34) inner.1, not_false (eqb b 92) outer.1, above.0, above.1, above.2, above.3, above.4, not_control b inner.0) refl

pub all_plain : (bs : List ℕ) → list_all is_plain_byte bs ≡ true → flat_map escaped bs ≡ bs
all_plain [] h = refl
all_plain (b ∷ bs) h =
    let both = and_both (is_plain_byte b) (list_all is_plain_byte bs) h in
    ap (λ (x : List ℕ). x ++ flat_map escaped bs) (plain_escaped b both.0) ∙ ap (λ (x : List ℕ). b ∷ x) (all_plain bs both.1)

pub flat_map_two : (xs ys : List ℕ) → flat_map escaped (xs ++ ys) ≡ flat_map escaped xs ++ flat_map escaped ys
flat_map_two [] ys = refl
flat_map_two (x ∷ xs) ys = ap (λ (t : List ℕ). escaped x ++ t) (flat_map_two xs ys) ∙ sym (append_assoc (escaped x) (flat_map escaped xs) (flat_map escaped ys))

next : (rest : List ℕ) (n : ℕ) → n < length rest → drop n rest ≡ get_or rest n 0 ∷ drop (n + 1) rest
next rest n lt = rw (add-one, drop-cons rest n 0) refl

cut : (rest : List ℕ) (n : ℕ) → n < length rest → list_all is_plain_byte (take n rest) ≡ true → flat_map escaped rest ≡ take n rest ++ (escaped (get_or rest n 0) ++ flat_map escaped (drop (n + 1) rest))
cut rest n lt all =
    ap (flat_map escaped) (sym (take-append-drop n rest)) ∙ flat_map_two (take n rest) (drop n rest)
    ∙ ap (λ (x : List ℕ). x ++ flat_map escaped (drop n rest)) (all_plain (take n rest) all)
    ∙ ap (λ (x : List ℕ). take n rest ++ flat_map escaped x) (next rest n lt)

pub text_goes_on : (out mid new whole rest : List ℕ) (n : ℕ) → mid ≡ out ++ take n rest → new ≡ mid ++ escaped (get_or rest n 0) → n < length rest → list_all is_plain_byte (take n rest) ≡ true
    → out ++ flat_map escaped rest ≡ whole → new ++ flat_map escaped (drop (n + 1) rest) ≡ whole
text_goes_on out mid new whole rest n m e lt all h =
    let tail = flat_map escaped (drop (n + 1) rest) in let b = escaped (get_or rest n 0) in
    ap (λ (x : List ℕ). x ++ tail) (e ∙ ap (λ (x : List ℕ). x ++ b) m)
    ∙ append_assoc (out ++ take n rest) b tail ∙ append_assoc out (take n rest) (b ++ tail)
    ∙ ap (λ (x : List ℕ). out ++ x) (sym (cut rest n lt all)) ∙ h

pub text_ends : (old start out mid new text rest : List ℕ) (n : ℕ) → start ≡ old ++ 34 ∷ [] → mid ≡ out ++ take n rest → n ≡ length rest → list_all is_plain_byte (take n rest) ≡ true
    → out ++ flat_map escaped rest ≡ start ++ flat_map escaped text → new ≡ mid ++ 34 ∷ [] → new ≡ old ++ quoted text
text_ends old start out mid new text rest n s m whole all h e =
    let same : take n rest ≡ rest = take_all n rest (omega arith) in
    let last : mid ≡ start ++ flat_map escaped text = m ∙ ap (λ (x : List ℕ). out ++ x) (sym (all_plain (take n rest) all) ∙ ap (flat_map escaped) same) ∙ h in
    e ∙ ap (λ (x : List ℕ). x ++ 34 ∷ []) (last ∙ ap (λ (x : List ℕ). x ++ flat_map escaped text) s ∙ append_assoc old (34 ∷ []) (flat_map escaped text))
    ∙ append_assoc old (34 ∷ flat_map escaped text) (34 ∷ [])

pub front_range : (xs : List ℕ) (n : ℕ) → slice_range xs 0 n ≡ take n xs
front_range xs n = grind arith
