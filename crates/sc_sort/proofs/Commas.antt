-- The parts of a text between commas, and the keys that they are.
use Rattle.std.proofs.Common.{◌≡◌, ◌≢◌, ℕ, suc, ◌+◌, ◌<◌, ◌≤◌, Bool, true, false, cond, eqb, List, [], ◌∷◌, ◌++◌, length, get_or, map, Option, Some, None, refl, ◌∙◌, ap, arith}
use Rattle.std.proofs.lemmas.Bool.{eqb-true}
use Rattle.std.proofs.lemmas.List.{length-map}
use Rattle.sc_base.specs.Parts.{parts_between, onto_first}
use Rattle.sc_sort.specs.declared.key.Key.{Key}
use Rattle.sc_sort.specs.Sorts.{key_of_part, keys_of_text}

-- what differs isn't tested as equal
differs : (a b : ℕ) → a ≢ b → eqb a b ≡ false
differs a b ne = by (eqb a b) refl
  where
    by : (t : Bool) → eqb a b ≡ t → t ≡ false
    by true e = absurd (ne (eqb-true a b e))
    by false e = refl

abbrev HasNoComma : List ℕ → Type 0
HasNoComma front = (i : ℕ) → i < length front → get_or front i 0 ≢ 44

in_front : (a : ℕ) (front : List ℕ) → HasNoComma (a ∷ front) → (eqb a 44 ≡ false) × HasNoComma front
in_front a front h = (differs a 44 (h 0 (omega arith)), λ i l. h (suc i) (omega arith))

pub cut_at : (front rest : List ℕ) → HasNoComma front → parts_between 44 (front ++ 44 ∷ rest) ≡ front ∷ parts_between 44 rest
cut_at [] rest h = refl
cut_at (a ∷ front) rest h =
    let p = in_front a front h in
    ap (λ t. cond t ([] ∷ parts_between 44 (front ++ 44 ∷ rest)) (onto_first a (parts_between 44 (front ++ 44 ∷ rest)))) p.0
    ∙ ap (onto_first a) (cut_at front rest p.1)

pub uncut : (text : List ℕ) → HasNoComma text → parts_between 44 text ≡ text ∷ []
uncut [] h = refl
uncut (a ∷ text) h =
    let p = in_front a text h in
    ap (λ t. cond t ([] ∷ parts_between 44 text) (onto_first a (parts_between 44 text))) p.0 ∙ ap (onto_first a) (uncut text p.1)

-- a part with no sign is a name
pub unsigned : (part : List ℕ) → ((rest : List ℕ) → part ≢ 45 ∷ rest) → ((rest : List ℕ) → part ≢ 43 ∷ rest) → ((rest : List ℕ) → part ≢ 32 ∷ rest) → record { name = part; down = false } ≡ key_of_part part
unsigned [] d u b = refl
unsigned (sign ∷ rest) d u b =
    let x = differs sign 45 (λ e. d rest (ap (λ s. s ∷ rest) e)) in
    let y = differs sign 43 (λ e. u rest (ap (λ s. s ∷ rest) e)) in
    let z = differs sign 32 (λ e. b rest (ap (λ s. s ∷ rest) e)) in
    rw (x, y, z) refl

-- ---- the parts that are left

abbrev pub parts_left : Option (List ℕ) → List (List ℕ)
parts_left None = []
parts_left (Some text) = parts_between 44 text

abbrev pub keys_left : Option (List ℕ) → List Key
keys_left left = map key_of_part (parts_left left)

-- for a loop's end
abbrev pub bytes_left : Option (List ℕ) → ℕ
bytes_left None = 0
bytes_left (Some text) = length text + 1

few_onto : (b : ℕ) (parts : List (List ℕ)) (n : ℕ) → length parts ≤ n + 1 → length (onto_first b parts) ≤ n + 2
few_onto b [] n l = omega arith
few_onto b (part ∷ parts) n l = omega arith

pub few_parts : (text : List ℕ) → length (parts_between 44 text) ≤ length text + 1
few_parts [] = omega arith
few_parts (b ∷ text) = by (eqb b 44) (few_parts text)
  where
    by : (t : Bool) → length (parts_between 44 text) ≤ length text + 1
        → length (cond t ([] ∷ parts_between 44 text) (onto_first b (parts_between 44 text))) ≤ length (b ∷ text) + 1
    by true h = omega (arith, h)
    by false h = let k = few_onto b (parts_between 44 text) (length text) h in omega (arith, k)

some_onto : (b : ℕ) (parts : List (List ℕ)) → 1 ≤ length (onto_first b parts)
some_onto b [] = omega arith
some_onto b (part ∷ parts) = omega arith

some_part : (text : List ℕ) → 1 ≤ length (parts_between 44 text)
some_part [] = omega arith
some_part (b ∷ text) = by (eqb b 44)
  where
    by : (t : Bool) → 1 ≤ length (cond t ([] ∷ parts_between 44 text) (onto_first b (parts_between 44 text)))
    by true = omega arith
    by false = some_onto b (parts_between 44 text)

-- a text has a key
pub some_key : (text : List ℕ) → 1 ≤ length (keys_of_text text)
some_key text = let e = length-map (parts_between 44 text) key_of_part in let s = some_part text in omega (arith, e, s)

-- and no more than one for each byte, and one
pub few_keys : (text : List ℕ) → length (keys_of_text text) ≤ length text + 1
few_keys text = let e = length-map (parts_between 44 text) key_of_part in let s = few_parts text in omega (arith, e, s)
