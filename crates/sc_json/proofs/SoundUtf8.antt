-- Where what a text stands for is UTF-8, the bytes in it that stand for themselves are whole characters.
use Rattle.std.proofs.Common.{◌≡◌, ℕ, ◌<◌, ◌≤◌, List, [], ◌∷◌, ◌++◌, true, refl, sym, ap, subst, ◌∙◌, append_assoc, arith, IsUtf8, length, get_or, length-append}
use Rattle.std.specs.Str.{IsCharBoundary}
use Rattle.std.proofs.lemmas.Bool.{and_parts}
use Rattle.std.proofs.lemmas.List.{append-nil, get_or_append_left, get_or-append-add}
use Rattle.std.proofs.lemmas.Str.{IsUtf8-take, IsUtf8-drop, IsUtf8-past_char, IsUtf8-encode, IsCharBoundary-start, length-encode, len_utf8_bounds}
use Rattle.std.proofs.Math.Seq.{take-append_seam, drop-append_seam}
use lib.Utf8.{scalar, scalars, encode, encodes}
use Rattle.sc_json.specs.Grammar.{Piece, plain, Pieces, no_piece, one_more}
use Rattle.sc_json.proofs.Utf8.{ArePlain, plain_char, piece_char}
use Rattle.sc_json.proofs.SoundTexts.{Bits, no_bit, byte, escape}

abbrev pub IsLead : List ℕ → Type 0
IsLead ys = 128 ≤ get_or ys 0 0 → 192 ≤ get_or ys 0 0

-- a text is cut before a character
pub cut : (xs ys : List ℕ) → IsUtf8 (xs ++ ys) → IsLead ys → IsUtf8 xs × IsUtf8 ys
cut xs ys u lead = (
  subst IsUtf8 (take-append_seam xs ys) (IsUtf8-take (xs ++ ys) (length xs) u boundary),
  subst IsUtf8 (drop-append_seam xs ys) (IsUtf8-drop (xs ++ ys) (length xs) u boundary),
)
  where
    here : get_or (xs ++ ys) (length xs) 0 ≡ get_or ys 0 0
    here = ap (λ (i : ℕ). get_or (xs ++ ys) i 0) (omega arith) ∙ get_or-append-add xs ys 0 0

    boundary : IsCharBoundary (xs ++ ys) (length xs)
    boundary = (omega (arith, length-append xs ys), λ lt high. omega (arith, here, lead (omega (arith, here, high))))

pub char_lead : (c : ℕ) (p : List ℕ) → scalar c ≡ true → IsLead (encode c ++ p)
char_lead c p ok =
    let some : 0 < length (encode c) = omega (arith, length-encode c, len_utf8_bounds c) in
    subst (λ (n : ℕ). 128 ≤ n → 192 ≤ n) (sym (get_or_append_left (encode c) p 0 0 some)) ((IsCharBoundary-start (encode c) (IsUtf8-encode c ok)).1 some)

plain_parts : (xs ys : List ℕ) → ArePlain (xs ++ ys) → ArePlain xs × ArePlain ys
plain_parts [] ys all = (tt, all)
plain_parts (x ∷ xs) ys all = let r = plain_parts xs ys all.1 in ((all.0, r.0), r.1)

-- whole characters that stand for themselves
chars_pieces : (cs : List ℕ) → scalars cs ≡ true → ArePlain (encodes cs) → (raw bytes : List ℕ) → Pieces raw bytes → Pieces (raw ++ encodes cs) (bytes ++ encodes cs)
chars_pieces [] ok all raw bytes begun = subst (λ (x : List ℕ). Pieces x (bytes ++ [])) (sym (append-nil raw)) (subst (λ (x : List ℕ). Pieces raw x) (sym (append-nil bytes)) begun)
chars_pieces (c ∷ cs) ok all raw bytes begun =
    let both = and_parts (scalar c) (scalars cs) ok in
    let r = plain_parts (encode c) (encodes cs) all in
    let h = plain_char c r.0 in
    let one : Piece (encode c) (encode c) = plain (encode c) (encode c) (record { c = c; scalar = both.0; low = h.low; no_quote = h.no_quote; no_slash = h.no_slash; is = refl; stands_is = refl }) in
    let more : Pieces ((raw ++ encode c) ++ encodes cs) ((bytes ++ encode c) ++ encodes cs) = chars_pieces cs both.1 r.1 (raw ++ encode c) (bytes ++ encode c) (one_more raw (encode c) bytes (encode c) begun one) in
    subst (λ (x : List ℕ). Pieces x (bytes ++ (encode c ++ encodes cs))) (append_assoc raw (encode c) (encodes cs)) (subst (λ (x : List ℕ). Pieces ((raw ++ encode c) ++ encodes cs) x) (append_assoc bytes (encode c) (encodes cs)) more)

pub run_pieces : (p : List ℕ) → ArePlain p → IsUtf8 p → (raw bytes : List ℕ) → Pieces raw bytes → Pieces (raw ++ p) (bytes ++ p)
run_pieces p all u raw bytes begun = subst (λ (x : List ℕ). Pieces (raw ++ x) (bytes ++ x)) u.1.1 (chars_pieces u.0 u.1.0 (subst ArePlain (sym u.1.1) all) raw bytes begun)

-- bytes and escapes, and then bytes that stand for themselves
runs : {raw bytes : List ℕ} → Bits raw bytes → (p : List ℕ) → ArePlain p → IsUtf8 (bytes ++ p) → Pieces (raw ++ p) (bytes ++ p)
runs no_bit p all u = run_pieces p all u [] [] no_piece
runs (byte raw bytes c begun h) p all u =
    subst (λ (x : List ℕ). Pieces x ((bytes ++ c ∷ []) ++ p)) (sym (append_assoc raw (c ∷ []) p))
    (subst (λ (x : List ℕ). Pieces (raw ++ (c ∷ p)) x) (sym (append_assoc bytes (c ∷ []) p))
    (runs begun (c ∷ p) (h, all) (subst IsUtf8 (append_assoc bytes (c ∷ []) p) u)))
runs (escape raw piece bytes stands begun one) p all u =
    let char = piece_char one in
    let total : IsUtf8 (bytes ++ (encode char.c ++ p)) = subst (λ (x : List ℕ). IsUtf8 (bytes ++ (x ++ p))) char.is (subst IsUtf8 (append_assoc bytes stands p) u) in
    let parts = cut bytes (encode char.c ++ p) total (char_lead char.c p char.scalar) in
    let before : Pieces raw bytes = subst (λ (x : List ℕ). Pieces x bytes) (append-nil raw) (subst (λ (x : List ℕ). Pieces (raw ++ []) x) (append-nil bytes) (runs begun [] tt (subst IsUtf8 (sym (append-nil bytes)) parts.0))) in
    run_pieces p all (IsUtf8-past_char (encode char.c ++ p) p char.c parts.1 refl) (raw ++ piece) (bytes ++ stands) (one_more raw piece bytes stands before one)

pub bits_pieces : (raw bytes : List ℕ) → Bits raw bytes → IsUtf8 bytes → Pieces raw bytes
bits_pieces raw bytes bits u =
    subst (λ (x : List ℕ). Pieces x bytes) (append-nil raw) (subst (λ (x : List ℕ). Pieces (raw ++ []) x) (append-nil bytes) (runs bits [] tt (subst IsUtf8 (sym (append-nil bytes)) u)))
