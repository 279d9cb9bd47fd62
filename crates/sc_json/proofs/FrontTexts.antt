-- A text in quotes that isn't closed is of whole characters where its bytes are.
use Rattle.std.proofs.Common.{◌≡◌, inl, ℕ, ◌-◌, ◌<◌, List, [], ◌∷◌, ◌++◌, length, Bool, true, false, cond, leb, ◌&&◌, Option, Some, None, refl, sym, ap, subst, ◌∙◌, arith, append_assoc, length-append, IsUtf8}
use Rattle.std.proofs.lemmas.Bool.Decides.{nat_tests}
use Rattle.std.proofs.lemmas.List.{append-nil}
use Rattle.std.proofs.lemmas.Str.{IsUtf8-drop, IsUtf8-encode, IsUtf8-append, IsUtf8-nil, IsCharBoundary-from_take, encode_ascii}
use Rattle.std.proofs.Math.Seq.{take-append_seam, drop-append_seam}
use Rattle.sc_json.specs.declared.state.Piece as pieces
use Rattle.sc_json.specs.declared.state.Piece.TheVariants.{Plain, Slash, Unit as Units, Unit1, Unit2, Unit3, Pair, PairSlash, Low, Low1, Low2, Low3}
use Rattle.sc_json.specs.Hex.{hex_of}
use Rattle.sc_json.specs.Grammar as grammar
use Rattle.sc_json.specs.Grammar.{Letter, AreHex, Piece, plain, letter, unit, pair, Pieces, no_piece, one_more}
use Rattle.sc_json.specs.Fronts.{TextFront}
use Rattle.sc_json.proofs.Utf8.{ArePlain, scalar_in}
use Rattle.sc_json.proofs.SoundTexts.{Bits, no_bit, byte, escape, AtPiece, IsHigh, Writes}
use Rattle.sc_json.proofs.SoundUtf8.{IsLead, cut, char_lead, run_pieces}
use Rattle.sc_json.proofs.FrontTokens.{text_front}

abbrev AreAscii : List ℕ → Type 0
AreAscii [] = Unit {0}
AreAscii (b ∷ bs) = (b < 128) × AreAscii bs

byte_utf8 : (b : ℕ) → b < 128 → IsUtf8 (b ∷ [])
byte_utf8 b small = subst IsUtf8 (encode_ascii b small) (IsUtf8-encode b (scalar_in b (inl (omega (arith, small)))))

ascii_utf8 : (bs : List ℕ) → AreAscii bs → IsUtf8 bs
ascii_utf8 [] all = IsUtf8-nil
ascii_utf8 (b ∷ bs) all = IsUtf8-append (b ∷ []) bs (byte_utf8 b all.0) (ascii_utf8 bs all.1)

letter_ascii : (c v : ℕ) → Letter c v → c < 128
letter_ascii _ _ grammar.quote = omega arith
letter_ascii _ _ grammar.backslash = omega arith
letter_ascii _ _ grammar.slash = omega arith
letter_ascii _ _ grammar.b = omega arith
letter_ascii _ _ grammar.f = omega arith
letter_ascii _ _ grammar.n = omega arith
letter_ascii _ _ grammar.r = omega arith
letter_ascii _ _ grammar.t = omega arith

hex_ascii : (b x : ℕ) → hex_of b ≡ Some x → b < 128
hex_ascii b x h = split (leb 48 b && leb b 57) (leb 65 b && leb b 70) (leb 97 b && leb b 102) refl refl refl h
  where
    between : (l u : ℕ) → u < 128 → (leb l b && leb b u) ≡ true → b < 128
    between l u lt e = grind (arith, nat_tests)

    split : (p q r : Bool) → (leb 48 b && leb b 57) ≡ p → (leb 65 b && leb b 70) ≡ q → (leb 97 b && leb b 102) ≡ r
        → cond {A = Option ℕ} p (Some (b - 48)) (cond {A = Option ℕ} q (Some (b - 55)) (cond {A = Option ℕ} r (Some (b - 87)) None)) ≡ Some x → b < 128
    split true q r f g k e = between 48 57 (omega arith) f
    split false true r f g k e = between 65 70 (omega arith) g
    split false false true f g k e = between 97 102 (omega arith) k
    split false false false f g k e = absurd cc

piece_utf8 : {m stands : List ℕ} → Piece m stands → IsUtf8 m
piece_utf8 (plain m stands r) = subst IsUtf8 (sym r.is) (IsUtf8-encode r.c r.scalar)
piece_utf8 (letter m stands r) = subst IsUtf8 (sym r.is) (ascii_utf8 (92 ∷ r.c ∷ []) (omega arith, (letter_ascii r.c r.v r.names, tt)))
piece_utf8 (unit m stands r) =
    subst IsUtf8 (sym r.is) (ascii_utf8 (92 ∷ 117 ∷ r.a ∷ r.b ∷ r.c ∷ r.d ∷ []) (omega arith, (omega arith, (hex_ascii r.a _ r.hex.w_is, (hex_ascii r.b _ r.hex.x_is, (hex_ascii r.c _ r.hex.y_is, (hex_ascii r.d _ r.hex.z_is, tt)))))))
piece_utf8 (pair m stands r) =
    let high : IsUtf8 (92 ∷ 117 ∷ r.a ∷ r.b ∷ r.c ∷ r.d ∷ []) = ascii_utf8 (92 ∷ 117 ∷ r.a ∷ r.b ∷ r.c ∷ r.d ∷ []) (omega arith, (omega arith, (hex_ascii r.a _ r.first.w_is, (hex_ascii r.b _ r.first.x_is, (hex_ascii r.c _ r.first.y_is, (hex_ascii r.d _ r.first.z_is, tt)))))) in
    let low : IsUtf8 (92 ∷ 117 ∷ r.e ∷ r.f ∷ r.g ∷ r.h ∷ []) = ascii_utf8 (92 ∷ 117 ∷ r.e ∷ r.f ∷ r.g ∷ r.h ∷ []) (omega arith, (omega arith, (hex_ascii r.e _ r.second.w_is, (hex_ascii r.f _ r.second.x_is, (hex_ascii r.g _ r.second.y_is, (hex_ascii r.h _ r.second.z_is, tt)))))) in
    subst IsUtf8 (sym r.is) (IsUtf8-append (92 ∷ 117 ∷ r.a ∷ r.b ∷ r.c ∷ r.d ∷ []) (92 ∷ 117 ∷ r.e ∷ r.f ∷ r.g ∷ r.h ∷ []) high low)

slash_lead : (m bs : List ℕ) → m ≡ 92 ∷ bs → (p : List ℕ) → IsLead (m ++ p)
slash_lead m bs e p = subst (λ (x : List ℕ). IsLead (x ++ p)) (sym e) (λ h. absurd (omega (arith, h)))

piece_lead : {m stands : List ℕ} → Piece m stands → (p : List ℕ) → IsLead (m ++ p)
piece_lead (plain m stands r) p = subst (λ (x : List ℕ). IsLead (x ++ p)) (sym r.is) (char_lead r.c p r.scalar)
piece_lead (letter m stands r) p = slash_lead m _ r.is p
piece_lead (unit m stands r) p = slash_lead m _ r.is p
piece_lead (pair m stands r) p = slash_lead m _ r.is p

-- what follows a text in a text
pub utf8_rest : (xs ys : List ℕ) → IsUtf8 (xs ++ ys) → IsUtf8 xs → IsUtf8 ys
utf8_rest xs ys u v = subst IsUtf8 (drop-append_seam xs ys) (IsUtf8-drop (xs ++ ys) (length xs) u (IsCharBoundary-from_take (xs ++ ys) (length xs) u (let l = length-append xs ys in omega (arith, l)) (subst IsUtf8 (sym (take-append_seam xs ys)) v)))

-- bytes and escapes, and then bytes that stand for themselves
raw_runs : {raw bytes : List ℕ} → Bits raw bytes → (p : List ℕ) → ArePlain p → IsUtf8 (raw ++ p) → Pieces (raw ++ p) (bytes ++ p)
raw_runs no_bit p all u = run_pieces p all u [] [] no_piece
raw_runs (byte raw bytes c begun h) p all u =
    subst (λ (x : List ℕ). Pieces x ((bytes ++ c ∷ []) ++ p)) (sym (append_assoc raw (c ∷ []) p))
    (subst (λ (x : List ℕ). Pieces (raw ++ (c ∷ p)) x) (sym (append_assoc bytes (c ∷ []) p))
    (raw_runs begun (c ∷ p) (h, all) (subst IsUtf8 (append_assoc raw (c ∷ []) p) u)))
raw_runs (escape raw piece bytes stands begun one) p all u =
    let parts = cut raw (piece ++ p) (subst IsUtf8 (append_assoc raw piece p) u) (piece_lead one p) in
    let before : Pieces raw bytes = subst (λ (x : List ℕ). Pieces x bytes) (append-nil raw) (subst (λ (x : List ℕ). Pieces (raw ++ []) x) (append-nil bytes) (raw_runs begun [] tt (subst IsUtf8 (sym (append-nil raw)) parts.0))) in
    run_pieces p all (utf8_rest piece p parts.1 (piece_utf8 one)) (raw ++ piece) (bytes ++ stands) (one_more raw piece bytes stands before one)

raw_pieces : {raw bytes : List ℕ} → Bits raw bytes → IsUtf8 raw → Pieces raw bytes
raw_pieces {raw} {bytes} bits u = subst (λ (x : List ℕ). Pieces x bytes) (append-nil raw) (subst (λ (x : List ℕ). Pieces (raw ++ []) x) (append-nil bytes) (raw_runs bits [] tt (subst IsUtf8 (sym (append-nil raw)) u)))

-- an escape begins a character
lead_of : (e bs : List ℕ) → e ≡ 92 ∷ bs → IsLead e
lead_of e bs h = subst IsLead (sym h) (λ q. absurd (omega (arith, q)))

high_lead : (high : ℕ) (m begin e : List ℕ) → IsHigh high m → e ≡ m ++ begin → IsLead e
high_lead high m begin e h is = lead_of e (117 ∷ h.a ∷ h.b ∷ h.c ∷ h.d ∷ begin) (is ∙ ap (λ (x : List ℕ). x ++ begin) h.is)

piece_begins : (p : pieces.Piece) (e : List ℕ) → AtPiece p e → IsLead e
piece_begins Plain e h = subst IsLead (sym h) (λ q. absurd (omega (arith, q)))
piece_begins Slash e h = lead_of e [] h
piece_begins Units e h = lead_of e _ h
piece_begins (Unit1 w) e h = lead_of e _ h.is
piece_begins (Unit2 two) e h = lead_of e _ h.is
piece_begins (Unit3 three) e h = lead_of e _ h.is
piece_begins (Pair high) e h = lead_of e _ h.is
piece_begins (PairSlash high) e h = high_lead high h.m _ e h.first h.is
piece_begins (Low high) e h = high_lead high h.m _ e h.first h.is
piece_begins (Low1 high) e h = high_lead high h.m _ e h.first h.is
piece_begins (Low2 high low) e h = high_lead high h.m _ e h.first h.is
piece_begins (Low3 high low) e h = high_lead high h.m _ e h.first h.is

-- what was read of a text in quotes is a front of it
pub writes_front : (m bytes : List ℕ) (p : pieces.Piece) → Writes m bytes p → IsUtf8 m → TextFront (34 ∷ m)
writes_front m bytes p w u =
    let parts = cut w.raw w.e (subst IsUtf8 w.is u) (piece_begins p w.e w.place) in
    subst (λ (x : List ℕ). TextFront (34 ∷ x)) (sym w.is) (text_front w.raw bytes w.e p (raw_pieces w.bits parts.0) w.place)

-- what follows an ASCII byte in a text
pub after_ascii : (xs : List ℕ) (b : ℕ) (ys : List ℕ) → b < 128 → IsUtf8 (xs ++ b ∷ ys) → IsUtf8 ys
after_ascii xs b ys small u = utf8_rest (b ∷ []) ys (cut xs (b ∷ ys) u (λ h. absurd (omega (arith, h, small)))).1 (byte_utf8 b small)

-- and what stands before one, or ends with one
pub before_ascii : (xs : List ℕ) (b : ℕ) (ys : List ℕ) → b < 128 → IsUtf8 (xs ++ b ∷ ys) → IsUtf8 xs
before_ascii xs b ys small u = (cut xs (b ∷ ys) u (λ h. absurd (omega (arith, h, small)))).0

pub through_ascii : (xs : List ℕ) (b : ℕ) (ys : List ℕ) → b < 128 → IsUtf8 (xs ++ b ∷ ys) → IsUtf8 (xs ++ b ∷ [])
through_ascii xs b ys small u = IsUtf8-append xs (b ∷ []) (before_ascii xs b ys small u) (byte_utf8 b small)
