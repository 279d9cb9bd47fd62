-- A text in quotes, as it is written, is one of the grammar.
use Rattle.std.proofs.Common.{◌≡◌, ◌≢◌, ℕ, ◌+◌, ◌/◌, ◌%◌, ◌<◌, ◌≤◌, ◌⊎◌, inl, inr, List, [], ◌∷◌, ◌++◌, Bool, true, false, eqb, ltb, leb, Some, None, refl, sym, ap, subst, ◌∙◌, append_assoc, arith, cond}
use Rattle.std.proofs.lemmas.Bool.{ne_eqb}
use Rattle.std.proofs.lemmas.Bool.Decides.{nat_tests}
use Rattle.std.proofs.lemmas.List.{append-nil}
use Rattle.std.proofs.lemmas.Str.{encode_ascii}
use Rattle.std.specs.List.{flat_map}
use Rattle.std.specs.Char.{IsScalar}
use Rattle.std.specs.Prelude.{encode_utf8, encode_utf8_all, IsUtf8}
use Rattle.std.proofs.Math.Utf8.{scalars}
use Rattle.sc_json.specs.Hex.{hex_of}
use Rattle.sc_json.specs.Pieces.{is_plain_byte}
use Rattle.sc_json.specs.Grammar.{Letter, IsPlain, IsLetter, IsUnit, AreHex, Piece, Pieces, Quoted, no_piece, one_more}
use Rattle.sc_json.specs.Grammar as grammar
use Rattle.sc_json.specs.Compact.{hex_digit, letter_of, escaped, quoted}
use Rattle.sc_json.proofs.RunsOn.{and_both}
use Rattle.sc_json.proofs.Quoting.{plain_escaped, flat_map_two}
use Rattle.sc_json.proofs.Utf8.{IsPlainByte, ArePlain, char_plain}

eq_from : (b k : ℕ) → eqb b k ≡ true → b ≡ k
eq_from b k e = grind (arith, nat_tests)

is_it : (b k : ℕ) → (b ≡ k) ⊎ (eqb b k ≡ false)
is_it b k = go (eqb b k) refl
  where
    go : (t : Bool) → eqb b k ≡ t → (b ≡ k) ⊎ (eqb b k ≡ false)
    go true e = inl (eq_from b k e)
    go false e = inr e

-- the byte has a letter, or it has none
record HasLetter (b : ℕ) : Type 0 where
  v : ℕ
  is : letter_of b ≡ Some v
  names : Letter v b
  low : b < 128

record HasNone (b : ℕ) : Type 0 where
  is : letter_of b ≡ None
  no_quote : eqb b 34 ≡ false
  no_slash : eqb b 92 ≡ false

lettered : (b k v : ℕ) → b ≡ k → letter_of k ≡ Some v → Letter v k → k < 128 → HasLetter b
lettered b k v e is names low = record { v = v; is = ap letter_of e ∙ is; names = subst (Letter v) (sym e) names; low = subst (λ (x : ℕ). x < 128) (sym e) low }

letter_case : (b : ℕ) → HasLetter b ⊎ HasNone b
letter_case b =
    elim (is_it b 34) [
      | inl e ↦ inl (lettered b 34 34 e refl grammar.quote (omega arith))
      | inr n1 ↦
          elim (is_it b 92) [
            | inl e ↦ inl (lettered b 92 92 e refl grammar.backslash (omega arith))
            | inr n2 ↦
                elim (is_it b 8) [
                  | inl e ↦ inl (lettered b 8 98 e refl grammar.b (omega arith))
                  | inr n3 ↦
                      elim (is_it b 9) [
                        | inl e ↦ inl (lettered b 9 116 e refl grammar.t (omega arith))
                        | inr n4 ↦
                            elim (is_it b 10) [
                              | inl e ↦ inl (lettered b 10 110 e refl grammar.n (omega arith))
                              | inr n5 ↦
                                  elim (is_it b 12) [
                                    | inl e ↦ inl (lettered b 12 102 e refl grammar.f (omega arith))
                                    | inr n6 ↦
                                        elim (is_it b 13) [
                                          | inl e ↦ inl (lettered b 13 114 e refl grammar.r (omega arith))
                                          | inr n7 ↦
                                              inr (record { is = rw (n1, n2, n3, n4, n5, n6, n7) refl; no_quote = n1; no_slash = n2 })
                                        ]
                                  ]
                            ]
                      ]
                ]
          ]
    ]

-- four digits of a control character
decimal_digit : (d : ℕ) → d < 10 → hex_of (48 + d) ≡ Some d
decimal_digit d lt = grind (arith, nat_tests)

letter_digit : (d : ℕ) → 10 ≤ d → d < 16 → hex_of (87 + d) ≡ Some d
letter_digit d ge lt = grind (arith, nat_tests)

is_decimal : (d : ℕ) → ltb d 10 ≡ true → d < 10
is_decimal d e = grind (arith, nat_tests)

no_decimal : (d : ℕ) → ltb d 10 ≡ false → 10 ≤ d
no_decimal d e = grind (arith, nat_tests)

digit_is : (d : ℕ) → d < 16 → hex_of (hex_digit d) ≡ Some d
digit_is d lt = go (ltb d 10) refl
  where
    go : (t : Bool) → ltb d 10 ≡ t → hex_of (hex_digit d) ≡ Some d
    go true e = ap (λ (t : Bool). hex_of (cond t (48 + d) (87 + d))) e ∙ decimal_digit d (is_decimal d e)
    go false e = ap (λ (t : Bool). hex_of (cond t (48 + d) (87 + d))) e ∙ letter_digit d (no_decimal d e) lt

control_hex : (b : ℕ) → b < 32 → AreHex 48 48 (hex_digit (b / 16)) (hex_digit (b % 16)) b
control_hex b lt = record {
  w = 0;
  x = 0;
  y = b / 16;
  z = b % 16;
  w_is = refl;
  x_is = refl;
  y_is = digit_is (b / 16) (omega arith);
  z_is = digit_is (b % 16) (omega arith);
  code_is = omega arith;
}

escaped-letter : (b v : ℕ) → letter_of b ≡ Some v → escaped b ≡ 92 ∷ v ∷ []
unfolding escaped
escaped-letter b v e = rw e refl

escaped-control : (b : ℕ) → letter_of b ≡ None → ltb b 32 ≡ true → escaped b ≡ 92 ∷ 117 ∷ 48 ∷ 48 ∷ hex_digit (b / 16) ∷ hex_digit (b % 16) ∷ []
unfolding escaped
escaped-control b e lt = rw (e, lt) refl

one_byte : (b : ℕ) → b < 128 → flat_map escaped (encode_utf8 b) ≡ escaped b
one_byte b lt = ap (flat_map escaped) (encode_ascii b lt) ∙ append-nil (escaped b)

is_low : (b : ℕ) → ltb b 32 ≡ true → b < 32
is_low b e = grind (arith, nat_tests)

is_high : (b : ℕ) → ltb b 32 ≡ false → 32 ≤ b
is_high b e = grind (arith, nat_tests)

is_other : (b k : ℕ) → eqb b k ≡ false → b ≢ k
is_other b k e = grind (arith, nat_tests)

at_least : (b : ℕ) → 32 ≤ b → leb 32 b ≡ true
at_least b le = grind (arith, nat_tests)

plain_byte : (b : ℕ) → IsPlainByte b → is_plain_byte b ≡ true
plain_byte b h = rw (at_least b h.low, ne_eqb b 34 h.no_quote, ne_eqb b 92 h.no_slash) refl

stays_as_it_is : (bs : List ℕ) → ArePlain bs → flat_map escaped bs ≡ bs
stays_as_it_is [] all = refl
stays_as_it_is (b ∷ bs) all = ap (λ (x : List ℕ). x ++ flat_map escaped bs) (plain_escaped b (plain_byte b all.0)) ∙ ap (λ (x : List ℕ). b ∷ x) (stays_as_it_is bs all.1)

char_piece : (c : ℕ) → IsScalar c → Piece (flat_map escaped (encode_utf8 c)) (encode_utf8 c)
char_piece c scalar = elim (letter_case c) [ inl h ↦ by_letter h | inr h ↦ go h (ltb c 32) refl ]
  where
    by_letter : HasLetter c → Piece (flat_map escaped (encode_utf8 c)) (encode_utf8 c)
    by_letter h = grammar.letter _ _ (record { c = h.v; v = c; names = h.names; is = one_byte c h.low ∙ escaped-letter c h.v h.is; stands_is = encode_ascii c h.low })

    go : HasNone c → (t : Bool) → ltb c 32 ≡ t → Piece (flat_map escaped (encode_utf8 c)) (encode_utf8 c)
    go h true e =
        let low : c < 32 = is_low c e in
        grammar.unit _ _ (record { a = 48; b = 48; c = hex_digit (c / 16); d = hex_digit (c % 16); code = c; hex = control_hex c low; single = inl (omega arith); is = one_byte c (omega arith) ∙ escaped-control c h.is e; stands_is = refl })
    go h false e =
        let high : 32 ≤ c = is_high c e in
        let plain : IsPlainByte c = record { low = high; no_quote = is_other c 34 h.no_quote; no_slash = is_other c 92 h.no_slash } in
        grammar.plain _ _ (record { c = c; scalar = scalar; low = high; no_quote = is_other c 34 h.no_quote; no_slash = is_other c 92 h.no_slash; is = stays_as_it_is (encode_utf8 c) (char_plain c plain); stands_is = refl })

more_pieces : (raw bytes : List ℕ) → Pieces raw bytes → (cs : List ℕ) → scalars cs ≡ true → Pieces (raw ++ flat_map escaped (encode_utf8_all cs)) (bytes ++ encode_utf8_all cs)
more_pieces raw bytes ps [] all = subst (λ (x : List ℕ). Pieces x (bytes ++ [])) (sym (append-nil raw)) (subst (Pieces raw) (sym (append-nil bytes)) ps)
more_pieces raw bytes ps (c ∷ cs) all =
    let both = and_both _ (scalars cs) all in
    let one = one_more raw (flat_map escaped (encode_utf8 c)) bytes (encode_utf8 c) ps (char_piece c both.0) in
    let rest = more_pieces (raw ++ flat_map escaped (encode_utf8 c)) (bytes ++ encode_utf8 c) one cs both.1 in
    subst (λ (x : List ℕ). Pieces x (bytes ++ encode_utf8_all (c ∷ cs)))
    (append_assoc raw (flat_map escaped (encode_utf8 c)) (flat_map escaped (encode_utf8_all cs)) ∙ ap (λ (x : List ℕ). raw ++ x) (sym (flat_map_two (encode_utf8 c) (encode_utf8_all cs))))
    (subst (Pieces ((raw ++ flat_map escaped (encode_utf8 c)) ++ flat_map escaped (encode_utf8_all cs))) (append_assoc bytes (encode_utf8 c) (encode_utf8_all cs)) rest)

pub text_spelled : (t : List ℕ) → IsUtf8 t → Quoted (quoted t) t
text_spelled t u = record { raw = flat_map escaped t; is = refl; pieces = subst (λ (x : List ℕ). Pieces (flat_map escaped x) x) u.1.1 (more_pieces [] [] no_piece u.0 u.1.0) }
