-- What the machine takes of a text in quotes, the grammar has.
use Rattle.std.proofs.Common.{◌≡◌, ◌≢◌, ◌⊎◌, inl, inr, ℕ, ◌+◌, ◌-◌, ◌*◌, ◌<◌, ◌≤◌, List, [], ◌∷◌, ◌++◌, true, false, eqb, ltb, leb, ◌&&◌, Option, Some, None, refl, sym, ap, subst, ◌∙◌, append_assoc, arith}
use Rattle.std.specs.Option.{option_map_or}
use Rattle.std.specs.Char.{encode_utf8}
use Rattle.std.proofs.lemmas.Bool.{eqb-true, cases_lt}
use Rattle.std.proofs.lemmas.Bool.Decides.{nat_tests}
use Rattle.std.proofs.lemmas.List.{append-nil}
use Rattle.sc_json.specs.declared.state.Piece as pieces
use Rattle.sc_json.specs.declared.state.Piece.TheVariants.{Plain, Slash, Unit as Units, Unit1, Unit2, Unit3, Pair, PairSlash, Low, Low1, Low2, Low3}
use Rattle.sc_json.specs.declared.quoted.Grown.{Grown}
use Rattle.sc_json.specs.declared.quoted.Added.TheVariants.{Nothing, Byte, Scalar}
use Rattle.sc_json.specs.Hex.{hex_of, utf8_of, halves}
use Rattle.sc_json.specs.Pieces.{piece_of, slash_of, digit_in, onward, added}
use Rattle.sc_json.specs.Machine.{with_added}
use Rattle.sc_json.specs.Grammar as grammar
use Rattle.sc_json.specs.Grammar.{Letter, AreHex, Piece, IsUnit, IsPair, unit, pair, letter, Pieces, no_piece, one_more}
use Rattle.sc_json.proofs.Hexadecimal.{hex_is}
use Rattle.sc_json.proofs.Utf8.{utf8_is, IsPlainByte}
use Rattle.sc_json.proofs.SoundNumbers.{chosen, some_is}

-- ---- a text up to a place, by its bytes

-- bytes and escapes: the bytes that stand for themselves need not be whole characters
pub data Bits : List ℕ → List ℕ → Type 0 where
  no_bit : Bits [] []
  byte : (raw bytes : List ℕ) (c : ℕ) → Bits raw bytes → IsPlainByte c → Bits (raw ++ c ∷ []) (bytes ++ c ∷ [])
  escape : (raw piece bytes stands : List ℕ) → Bits raw bytes → Piece piece stands → Bits (raw ++ piece) (bytes ++ stands)

-- `\u` and one to three digits
pub record AtUnit1 (w : ℕ) (e : List ℕ) : Type 0 where
  pub a : ℕ
  pub w_is : hex_of a ≡ Some w
  pub is : e ≡ 92 ∷ 117 ∷ a ∷ []

pub record AtUnit2 (two : ℕ) (e : List ℕ) : Type 0 where
  pub a : ℕ
  pub b : ℕ
  pub w : ℕ
  pub x : ℕ
  pub w_is : hex_of a ≡ Some w
  pub x_is : hex_of b ≡ Some x
  pub no_low : w ≡ 13 → x < 12
  pub two_is : two ≡ w * 16 + x
  pub is : e ≡ 92 ∷ 117 ∷ a ∷ b ∷ []

pub record AtUnit3 (three : ℕ) (e : List ℕ) : Type 0 where
  pub a : ℕ
  pub b : ℕ
  pub c : ℕ
  pub w : ℕ
  pub x : ℕ
  pub y : ℕ
  pub w_is : hex_of a ≡ Some w
  pub x_is : hex_of b ≡ Some x
  pub y_is : hex_of c ≡ Some y
  pub no_low : w ≡ 13 → x < 12
  pub three_is : three ≡ (w * 16 + x) * 16 + y
  pub is : e ≡ 92 ∷ 117 ∷ a ∷ b ∷ c ∷ []

-- the escape of a high surrogate
pub record IsHigh (high : ℕ) (m : List ℕ) : Type 0 where
  pub a : ℕ
  pub b : ℕ
  pub c : ℕ
  pub d : ℕ
  pub hex : AreHex a b c d high
  pub from_high : 55296 ≤ high
  pub to_high : high < 56320
  pub is : m ≡ 92 ∷ 117 ∷ a ∷ b ∷ c ∷ d ∷ []

-- and then the begin of the low one's
pub record AtLow (high : ℕ) (begin e : List ℕ) : Type 0 where
  pub m : List ℕ
  pub first : IsHigh high m
  pub is : e ≡ m ++ begin

pub record AtLow1 (high : ℕ) (e : List ℕ) : Type 0 where
  pub m : List ℕ
  pub a : ℕ
  pub first : IsHigh high m
  pub w_is : hex_of a ≡ Some 13
  pub is : e ≡ m ++ 92 ∷ 117 ∷ a ∷ []

pub record AtLow2 (high low : ℕ) (e : List ℕ) : Type 0 where
  pub m : List ℕ
  pub a : ℕ
  pub b : ℕ
  pub first : IsHigh high m
  pub w_is : hex_of a ≡ Some 13
  pub x_is : hex_of b ≡ Some low
  pub from_twelve : 12 ≤ low
  pub is : e ≡ m ++ 92 ∷ 117 ∷ a ∷ b ∷ []

pub record AtLow3 (high low : ℕ) (e : List ℕ) : Type 0 where
  pub m : List ℕ
  pub a : ℕ
  pub b : ℕ
  pub c : ℕ
  pub x : ℕ
  pub y : ℕ
  pub first : IsHigh high m
  pub w_is : hex_of a ≡ Some 13
  pub x_is : hex_of b ≡ Some x
  pub y_is : hex_of c ≡ Some y
  pub from_twelve : 12 ≤ x
  pub low_is : low ≡ x * 16 + y
  pub is : e ≡ m ++ 92 ∷ 117 ∷ a ∷ b ∷ c ∷ []

-- the bytes of an escape up to here
abbrev pub AtPiece : pieces.Piece → List ℕ → Type 0
AtPiece Plain e = e ≡ []
AtPiece Slash e = e ≡ 92 ∷ []
AtPiece Units e = e ≡ 92 ∷ 117 ∷ []
AtPiece (Unit1 w) e = AtUnit1 w e
AtPiece (Unit2 two) e = AtUnit2 two e
AtPiece (Unit3 three) e = AtUnit3 three e
AtPiece (Pair high) e = IsHigh high e
AtPiece (PairSlash high) e = AtLow high (92 ∷ []) e
AtPiece (Low high) e = AtLow high (92 ∷ 117 ∷ []) e
AtPiece (Low1 high) e = AtLow1 high e
AtPiece (Low2 high low) e = AtLow2 high low e
AtPiece (Low3 high low) e = AtLow3 high low e

-- a text behind its quote, up to here
pub record Writes (m bytes : List ℕ) (p : pieces.Piece) : Type 0 where
  pub raw : List ℕ
  pub e : List ℕ
  pub bits : Bits raw bytes
  pub place : AtPiece p e
  pub is : m ≡ raw ++ e

-- ---- one more byte

-- what a byte comes to: the place in an escape, or the escape's end
record Grows (e : List ℕ) (raw bytes bs : List ℕ) (p : pieces.Piece) : Type 0 where
  raw' : List ℕ
  e' : List ℕ
  bits : Bits raw' bs
  place : AtPiece p e'
  is : raw ++ e ≡ raw' ++ e'

-- the escape goes on
goes_on : (raw bytes bs e : List ℕ) (q : pieces.Piece) (g : Grown) → Bits raw bytes → AtPiece q e → onward q ≡ Some g → with_added bytes g.added ≡ Some bs → Grows e raw bytes bs g.piece
goes_on raw bytes bs e q g bits place h a =
    subst (λ (x : Grown). with_added bytes x.added ≡ Some bs → Grows e raw bytes bs x.piece) (some_is (record { piece = q; added = Nothing }) g h)
    (λ a. record { raw' = raw; e' = e; bits = subst (λ (x : List ℕ). Bits raw x) (some_is bytes bs a) bits; place = place; is = refl }) a

-- the escape ends, and stands for a byte
ends_byte : (raw bytes bs e : List ℕ) (v : ℕ) (g : Grown) → Bits raw bytes → Piece e (v ∷ []) → added v ≡ Some g → with_added bytes g.added ≡ Some bs → Grows e raw bytes bs g.piece
ends_byte raw bytes bs e v g bits piece h a =
    subst (λ (x : Grown). with_added bytes x.added ≡ Some bs → Grows e raw bytes bs x.piece) (some_is (record { piece = Plain; added = Byte v }) g h)
    (λ a. record { raw' = raw ++ e; e' = []; bits = subst (λ (x : List ℕ). Bits (raw ++ e) x) (some_is (bytes ++ v ∷ []) bs a) (escape raw e bytes (v ∷ []) bits piece); place = refl; is = sym (append-nil (raw ++ e)) }) a

-- the escape ends, and stands for a character
ends_char : (raw bytes bs e : List ℕ) (c : ℕ) (g : Grown) → Bits raw bytes → Piece e (encode_utf8 c) → Some (record { piece = Plain; added = Scalar c }) ≡ Some g → with_added bytes g.added ≡ Some bs → Grows e raw bytes bs g.piece
ends_char raw bytes bs e c g bits piece h a =
    subst (λ (x : Grown). with_added bytes x.added ≡ Some bs → Grows e raw bytes bs x.piece) (some_is (record { piece = Plain; added = Scalar c }) g h)
    (λ a. elim (chosen {A = Option (List ℕ)} (leb 1114112 c) None (Some (bytes ++ utf8_of c)) (Some bs) a) [
      | inl r ↦ absurd cc
      | inr r ↦ record {
        raw' = raw ++ e;
        e' = [];
        bits = subst (λ (x : List ℕ). Bits (raw ++ e) x) (ap (λ (x : List ℕ). bytes ++ x) (sym (utf8_is c)) ∙ some_is (bytes ++ utf8_of c) bs r.1) (escape raw e bytes (encode_utf8 c) bits piece);
        place = refl;
        is = sym (append-nil (raw ++ e));
      }
    ]) a

plain_grows : (raw bytes bs : List ℕ) (b : ℕ) (g : Grown) → Bits raw bytes → b ≢ 34 → piece_of Plain b ≡ Some g → with_added bytes g.added ≡ Some bs → Grows (b ∷ []) raw bytes bs g.piece
plain_grows raw bytes bs b g bits ne h a =
    elim (chosen {A = Option Grown} (eqb b 92) _ _ _ h) [
      | inl p ↦ goes_on raw bytes bs (b ∷ []) Slash g bits (ap (λ (x : ℕ). x ∷ []) (eqb-true b 92 p.0)) p.1 a
      | inr p ↦ elim (chosen {A = Option Grown} (ltb b 32) _ _ _ p.1) [
        | inl q ↦ absurd cc
        | inr q ↦
            let is_plain : IsPlainByte b = record { low = grind (arith, nat_tests); no_quote = ne; no_slash = λ e. let no : eqb b 92 ≡ false = p.0 in absurd (grind (arith, nat_tests)) } in
            subst (λ (x : Grown). with_added bytes x.added ≡ Some bs → Grows (b ∷ []) raw bytes bs x.piece) (some_is (record { piece = Plain; added = Byte b }) g q.1)
            (λ a. record { raw' = raw ++ b ∷ []; e' = []; bits = subst (λ (x : List ℕ). Bits (raw ++ b ∷ []) x) (some_is (bytes ++ b ∷ []) bs a) (byte raw bytes b bits is_plain); place = refl; is = sym (append-nil (raw ++ b ∷ [])) }) a
      ]
    ]

letter_grows : (raw bytes bs : List ℕ) (b c v : ℕ) (g : Grown) → Bits raw bytes → Letter c v → eqb b c ≡ true → added v ≡ Some g → with_added bytes g.added ≡ Some bs → Grows (92 ∷ b ∷ []) raw bytes bs g.piece
letter_grows raw bytes bs b c v g bits names is h a = ends_byte raw bytes bs (92 ∷ b ∷ []) v g bits (letter (92 ∷ b ∷ []) (v ∷ []) (record { c = c; v = v; names = names; is = ap (λ (x : ℕ). 92 ∷ x ∷ []) (eqb-true b c is); stands_is = refl })) h a

slash_grows : (raw bytes bs : List ℕ) (b : ℕ) (g : Grown) → Bits raw bytes → slash_of b ≡ Some g → with_added bytes g.added ≡ Some bs → Grows (92 ∷ b ∷ []) raw bytes bs g.piece
slash_grows raw bytes bs b g bits h a =
    elim (chosen {A = Option Grown} (eqb b 34) _ _ _ h) [
      | inl p ↦ letter_grows raw bytes bs b 34 34 g bits grammar.quote p.0 p.1 a
      | inr p0 ↦ elim (chosen {A = Option Grown} (eqb b 92) _ _ _ p0.1) [
        | inl p ↦ letter_grows raw bytes bs b 92 92 g bits grammar.backslash p.0 p.1 a
        | inr p1 ↦ elim (chosen {A = Option Grown} (eqb b 47) _ _ _ p1.1) [
          | inl p ↦ letter_grows raw bytes bs b 47 47 g bits grammar.slash p.0 p.1 a
          | inr p2 ↦ elim (chosen {A = Option Grown} (eqb b 98) _ _ _ p2.1) [
            | inl p ↦ letter_grows raw bytes bs b 98 8 g bits grammar.b p.0 p.1 a
            | inr p3 ↦ elim (chosen {A = Option Grown} (eqb b 102) _ _ _ p3.1) [
              | inl p ↦ letter_grows raw bytes bs b 102 12 g bits grammar.f p.0 p.1 a
              | inr p4 ↦ elim (chosen {A = Option Grown} (eqb b 110) _ _ _ p4.1) [
                | inl p ↦ letter_grows raw bytes bs b 110 10 g bits grammar.n p.0 p.1 a
                | inr p5 ↦ elim (chosen {A = Option Grown} (eqb b 114) _ _ _ p5.1) [
                  | inl p ↦ letter_grows raw bytes bs b 114 13 g bits grammar.r p.0 p.1 a
                  | inr p6 ↦ elim (chosen {A = Option Grown} (eqb b 116) _ _ _ p6.1) [
                    | inl p ↦ letter_grows raw bytes bs b 116 9 g bits grammar.t p.0 p.1 a
                    | inr p7 ↦ elim (chosen {A = Option Grown} (eqb b 117) _ _ _ p7.1) [
                      | inl p ↦ goes_on raw bytes bs (92 ∷ b ∷ []) Units g bits (ap (λ (x : ℕ). 92 ∷ x ∷ []) (eqb-true b 117 p.0)) p.1 a
                      | inr p8 ↦ absurd cc
                    ]
                  ]
                ]
              ]
            ]
          ]
        ]
      ]
    ]

-- a digit's number
record Digit (p : pieces.Piece) (b : ℕ) (g : Grown) : Type 0 where
  x : ℕ
  is : hex_of b ≡ Some x
  grown : digit_in p x ≡ Some g

digit_of : (p : pieces.Piece) (b : ℕ) (g : Grown) → option_map_or (digit_in p) (hex_of b) None ≡ Some g → Digit p b g
digit_of p b g h = go (hex_of b) refl h
  where
    go : (o : Option ℕ) → hex_of b ≡ o → option_map_or (digit_in p) o None ≡ Some g → Digit p b g
    go None e h = absurd cc
    go (Some x) e h = record { x = x; is = e; grown = h }

unit1_grows : (raw bytes bs e : List ℕ) (w b : ℕ) (g : Grown) → Bits raw bytes → AtUnit1 w e → Digit (Unit1 w) b g → with_added bytes g.added ≡ Some bs → Grows (e ++ b ∷ []) raw bytes bs g.piece
unit1_grows raw bytes bs e w b g bits r d a =
    elim (chosen {A = Option Grown} (eqb w 13 && leb 12 d.x) _ _ _ d.grown) [
      | inl p ↦ absurd cc
      | inr p ↦
          goes_on raw bytes bs (e ++ b ∷ []) (Unit2 (w * 16 + d.x)) g bits
          (record { a = r.a; b = b; w = w; x = d.x; w_is = r.w_is; x_is = d.is; no_low = below w d.x p.0; two_is = refl; is = ap (λ (x : List ℕ). x ++ b ∷ []) r.is }) p.1 a
    ]
  where
    below : (w x : ℕ) → (eqb w 13 && leb 12 x) ≡ false → w ≡ 13 → x < 12
    below w x h e = grind (arith, nat_tests)

unit3_grows : (raw bytes bs e : List ℕ) (three b : ℕ) (g : Grown) → Bits raw bytes → AtUnit3 three e → Digit (Unit3 three) b g → with_added bytes g.added ≡ Some bs → Grows (e ++ b ∷ []) raw bytes bs g.piece
unit3_grows raw bytes bs e three b g bits r d a =
    elim (chosen {A = Option Grown} (leb 65536 code) _ _ _ d.grown) [
      | inl p ↦ absurd cc
      | inr p ↦ elim (chosen {A = Option Grown} (leb 55296 code && ltb code 56320) _ _ _ p.1) [
        | inl q ↦ goes_on raw bytes bs (e ++ b ∷ []) (Pair code) g bits (record { a = r.a; b = r.b; c = r.c; d = b; hex = hex; from_high = from_high code q.0; to_high = to_high code q.0; is = text }) q.1 a
        | inr q ↦ ends_char raw bytes bs (e ++ b ∷ []) code g bits (unit (e ++ b ∷ []) (encode_utf8 code) (record { a = r.a; b = r.b; c = r.c; d = b; code = code; hex = hex; single = single r.w r.x r.y d.x r.no_low (hex_is r.b r.x r.x_is).1 (hex_is r.c r.y r.y_is).1 (hex_is b d.x d.is).1 code code_is q.0; is = text; stands_is = refl })) q.1 a
      ]
    ]
  where
    code : ℕ
    code = three * 16 + d.x

    code_is : three * 16 + d.x ≡ ((r.w * 16 + r.x) * 16 + r.y) * 16 + d.x
    code_is = ap (λ (n : ℕ). n * 16 + d.x) r.three_is

    hex : AreHex r.a r.b r.c b (three * 16 + d.x)
    hex = record { w = r.w; x = r.x; y = r.y; z = d.x; w_is = r.w_is; x_is = r.x_is; y_is = r.y_is; z_is = d.is; code_is = code_is }

    text : e ++ b ∷ [] ≡ 92 ∷ 117 ∷ r.a ∷ r.b ∷ r.c ∷ b ∷ []
    text = ap (λ (x : List ℕ). x ++ b ∷ []) r.is

    from_high : (n : ℕ) → (leb 55296 n && ltb n 56320) ≡ true → 55296 ≤ n
    from_high n h = grind (arith, nat_tests)

    to_high : (n : ℕ) → (leb 55296 n && ltb n 56320) ≡ true → n < 56320
    to_high n h = grind (arith, nat_tests)

    outside : (n : ℕ) → (leb 55296 n && ltb n 56320) ≡ false → (n < 55296) ⊎ (56320 ≤ n)
    outside n h = grind (arith, nat_tests)

    single : (w x y z : ℕ) → (w ≡ 13 → x < 12) → x < 16 → y < 16 → z < 16 → (n : ℕ) → n ≡ ((w * 16 + x) * 16 + y) * 16 + z → (leb 55296 n && ltb n 56320) ≡ false → (n < 55296) ⊎ (57344 ≤ n)
    single w x y z fine xs ys zs n e h =
        elim (outside n h) [
          | inl lt ↦ inl lt
          | inr ge ↦ elim (cases_lt n 57344) [
            | inl lt ↦ let thirteen : w ≡ 13 = omega arith in let twelve : x < 12 = fine thirteen in absurd (omega arith)
            | inr top ↦ inr top
          ]
        ]

low3_grows : (raw bytes bs e : List ℕ) (high low b : ℕ) (g : Grown) → Bits raw bytes → AtLow3 high low e → Digit (Low3 high low) b g → with_added bytes g.added ≡ Some bs → Grows (e ++ b ∷ []) raw bytes bs g.piece
unfolding halves
low3_grows raw bytes bs e high low b g bits r d a =
    elim (chosen {A = Option Grown} (ltb high 55296) _ _ _ d.grown) [
      | inl p ↦ absurd cc
      | inr p ↦ elim (chosen {A = Option Grown} (ltb (low * 16 + d.x) 3072) _ _ _ p.1) [
        | inl q ↦ absurd cc
        | inr q ↦ elim (chosen {A = Option Grown} (leb 1114112 (65536 + (high - 55296) * 1024 + (low * 16 + d.x - 3072))) _ _ _ q.1) [
          | inl t ↦ absurd cc
          | inr t ↦ ends_char raw bytes bs (e ++ b ∷ []) (65536 + (high - 55296) * 1024 + (low * 16 + d.x - 3072)) g bits
              (pair (e ++ b ∷ []) _ (record {
                a = r.first.a;
                b = r.first.b;
                c = r.first.c;
                d = r.first.d;
                e = r.a;
                f = r.b;
                g = r.c;
                h = b;
                high = high;
                low = 53248 + (low * 16 + d.x);
                first = r.first.hex;
                from_high = r.first.from_high;
                to_high = r.first.to_high;
                second = record { w = 13; x = r.x; y = r.y; z = d.x; w_is = r.w_is; x_is = r.x_is; y_is = r.y_is; z_is = d.is; code_is = code_is r.x r.y d.x low r.low_is };
                from_low = from_low r.x r.y d.x low r.low_is r.from_twelve;
                to_low = to_low r.x r.y d.x low r.low_is (hex_is r.b r.x r.x_is).1 (hex_is r.c r.y r.y_is).1 (hex_is b d.x d.is).1;
                is = ap (λ (x : List ℕ). x ++ b ∷ []) (r.is ∙ ap (λ (x : List ℕ). x ++ 92 ∷ 117 ∷ r.a ∷ r.b ∷ r.c ∷ []) r.first.is);
                stands_is = ap (λ (x : ℕ). encode_utf8 (65536 + (high - 55296) * 1024 + x)) (same (low * 16 + d.x));
              })) t.1 a
        ]
      ]
    ]
  where
    code_is : (x y z low : ℕ) → low ≡ x * 16 + y → 53248 + (low * 16 + z) ≡ ((13 * 16 + x) * 16 + y) * 16 + z
    code_is x y z low e = omega arith

    from_low : (x y z low : ℕ) → low ≡ x * 16 + y → 12 ≤ x → 56320 ≤ 53248 + (low * 16 + z)
    from_low x y z low e le = omega arith

    to_low : (x y z low : ℕ) → low ≡ x * 16 + y → x < 16 → y < 16 → z < 16 → 53248 + (low * 16 + z) < 57344
    to_low x y z low e xs ys zs = omega arith

    same : (n : ℕ) → n - 3072 ≡ 53248 + n - 56320
    same n = omega arith

grows_by : (p : pieces.Piece) (raw bytes bs e : List ℕ) (b : ℕ) (g : Grown) → Bits raw bytes → AtPiece p e → (b ≡ 34 → p ≡ Plain → ⊥) → piece_of p b ≡ Some g → with_added bytes g.added ≡ Some bs → Grows (e ++ b ∷ []) raw bytes bs g.piece
grows_by Plain raw bytes bs e b g bits r ne h a = subst (λ (x : List ℕ). Grows (x ++ b ∷ []) raw bytes bs g.piece) (sym r) (plain_grows raw bytes bs b g bits (λ is. ne is refl) h a)
grows_by Slash raw bytes bs e b g bits r ne h a = subst (λ (x : List ℕ). Grows (x ++ b ∷ []) raw bytes bs g.piece) (sym r) (slash_grows raw bytes bs b g bits h a)
grows_by Units raw bytes bs e b g bits r ne h a =
    let d = digit_of Units b g h in
    goes_on raw bytes bs (e ++ b ∷ []) (Unit1 d.x) g bits (record { a = b; w_is = d.is; is = ap (λ (x : List ℕ). x ++ b ∷ []) r }) d.grown a
grows_by (Unit1 w) raw bytes bs e b g bits r ne h a = unit1_grows raw bytes bs e w b g bits r (digit_of (Unit1 w) b g h) a
grows_by (Unit2 two) raw bytes bs e b g bits r ne h a =
    let d = digit_of (Unit2 two) b g h in
    goes_on raw bytes bs (e ++ b ∷ []) (Unit3 (two * 16 + d.x)) g bits
    (record { a = r.a; b = r.b; c = b; w = r.w; x = r.x; y = d.x; w_is = r.w_is; x_is = r.x_is; y_is = d.is; no_low = r.no_low; three_is = ap (λ (n : ℕ). n * 16 + d.x) r.two_is; is = ap (λ (x : List ℕ). x ++ b ∷ []) r.is }) d.grown a
grows_by (Unit3 three) raw bytes bs e b g bits r ne h a = unit3_grows raw bytes bs e three b g bits r (digit_of (Unit3 three) b g h) a
grows_by (Pair high) raw bytes bs e b g bits r ne h a =
    elim (chosen {A = Option Grown} (eqb b 92) _ _ _ h) [
      | inl p ↦ goes_on raw bytes bs (e ++ b ∷ []) (PairSlash high) g bits (record { m = e; first = r; is = ap (λ (x : ℕ). e ++ x ∷ []) (eqb-true b 92 p.0) }) p.1 a
      | inr p ↦ absurd cc
    ]
grows_by (PairSlash high) raw bytes bs e b g bits r ne h a =
    elim (chosen {A = Option Grown} (eqb b 117) _ _ _ h) [
      | inl p ↦ goes_on raw bytes bs (e ++ b ∷ []) (Low high) g bits (record { m = r.m; first = r.first; is = ap (λ (x : List ℕ). x ++ b ∷ []) r.is ∙ append_assoc r.m (92 ∷ []) (b ∷ []) ∙ ap (λ (x : ℕ). r.m ++ 92 ∷ x ∷ []) (eqb-true b 117 p.0) }) p.1 a
      | inr p ↦ absurd cc
    ]
grows_by (Low high) raw bytes bs e b g bits r ne h a =
    let d = digit_of (Low high) b g h in
    elim (chosen {A = Option Grown} (eqb d.x 13) _ _ _ d.grown) [
      | inl p ↦ goes_on raw bytes bs (e ++ b ∷ []) (Low1 high) g bits (record { m = r.m; a = b; first = r.first; w_is = d.is ∙ ap (λ (x : ℕ). Some x) (eqb-true d.x 13 p.0); is = ap (λ (x : List ℕ). x ++ b ∷ []) r.is ∙ append_assoc r.m (92 ∷ 117 ∷ []) (b ∷ []) }) p.1 a
      | inr p ↦ absurd cc
    ]
grows_by (Low1 high) raw bytes bs e b g bits r ne h a =
    let d = digit_of (Low1 high) b g h in
    elim (chosen {A = Option Grown} (leb 12 d.x) _ _ _ d.grown) [
      | inl p ↦ goes_on raw bytes bs (e ++ b ∷ []) (Low2 high d.x) g bits (record { m = r.m; a = r.a; b = b; first = r.first; w_is = r.w_is; x_is = d.is; from_twelve = at_least d.x p.0; is = ap (λ (x : List ℕ). x ++ b ∷ []) r.is ∙ append_assoc r.m (92 ∷ 117 ∷ r.a ∷ []) (b ∷ []) }) p.1 a
      | inr p ↦ absurd cc
    ]
  where
    at_least : (x : ℕ) → leb 12 x ≡ true → 12 ≤ x
    at_least x h = grind (arith, nat_tests)
grows_by (Low2 high low) raw bytes bs e b g bits r ne h a =
    let d = digit_of (Low2 high low) b g h in
    goes_on raw bytes bs (e ++ b ∷ []) (Low3 high (low * 16 + d.x)) g bits
    (record { m = r.m; a = r.a; b = r.b; c = b; x = low; y = d.x; first = r.first; w_is = r.w_is; x_is = r.x_is; y_is = d.is; from_twelve = r.from_twelve; low_is = refl; is = ap (λ (x : List ℕ). x ++ b ∷ []) r.is ∙ append_assoc r.m (92 ∷ 117 ∷ r.a ∷ r.b ∷ []) (b ∷ []) }) d.grown a
grows_by (Low3 high low) raw bytes bs e b g bits r ne h a = low3_grows raw bytes bs e high low b g bits r (digit_of (Low3 high low) b g h) a

-- the machine takes one more byte of a text
pub writes_on : (m bytes bs : List ℕ) (p : pieces.Piece) (b : ℕ) (g : Grown) → Writes m bytes p → (b ≡ 34 → p ≡ Plain → ⊥) → piece_of p b ≡ Some g → with_added bytes g.added ≡ Some bs → Writes (m ++ b ∷ []) bs g.piece
writes_on m bytes bs p b g w ne h a =
    let r = grows_by p w.raw bytes bs w.e b g w.bits w.place ne h a in
    record { raw = r.raw'; e = r.e'; bits = r.bits; place = r.place; is = ap (λ (x : List ℕ). x ++ b ∷ []) w.is ∙ append_assoc w.raw w.e (b ∷ []) ∙ r.is }

pub writes_nothing : Writes [] [] Plain
writes_nothing = record { raw = []; e = []; bits = no_bit; place = refl; is = refl }

-- a text that may end here
pub writes_bits : (m bytes : List ℕ) → Writes m bytes Plain → Bits m bytes
writes_bits m bytes w = subst (λ (x : List ℕ). Bits x bytes) (sym (w.is ∙ ap (λ (x : List ℕ). w.raw ++ x) w.place ∙ append-nil w.raw)) w.bits
