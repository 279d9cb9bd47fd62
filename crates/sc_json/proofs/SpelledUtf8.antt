-- A JSON text is UTF-8.
use Rattle.std.proofs.Common.{◌≡◌, ℕ, ◌<◌, List, [], ◌∷◌, ◌++◌, Bool, true, false, eqb, ◌||◌, refl, sym, subst, arith, IsUtf8}
use Rattle.std.proofs.lemmas.Bool.{eqb-true}
use Rattle.std.proofs.lemmas.Str.{IsUtf8-nil, IsUtf8-append, IsUtf8-encode}
use Rattle.sc_json.specs.declared.tree.Json.{Json}
use Rattle.sc_json.specs.declared.tree.Member.{Member}
use Rattle.sc_json.specs.Characters.{is_blank_byte}
use Rattle.sc_json.specs.Grammar as grammar
use Rattle.sc_json.specs.Grammar.{AreBlanks, Letter, AreHex, Piece, plain, letter, unit, pair, Pieces, no_piece, one_more, Quoted, Padded, pad, Begun, Field, field, Named}
use Rattle.sc_json.proofs.Hexadecimal.{hex_is}
use Rattle.sc_json.proofs.Numerals.{AreAscii, ascii_append, ascii_utf8, literal_utf8}

blank_ascii : (b : ℕ) → is_blank_byte b ≡ true → b < 128
blank_ascii b h = split (eqb b 32) (eqb b 9) (eqb b 10) (eqb b 13) refl refl refl refl h
  where
    split : (p q r s : Bool) → eqb b 32 ≡ p → eqb b 9 ≡ q → eqb b 10 ≡ r → eqb b 13 ≡ s → (p || q || r || s) ≡ true → b < 128
    split true q r s e f g k h = omega (arith, eqb-true b 32 e)
    split false true r s e f g k h = omega (arith, eqb-true b 9 f)
    split false false true s e f g k h = omega (arith, eqb-true b 10 g)
    split false false false true e f g k h = omega (arith, eqb-true b 13 k)
    split false false false false e f g k h = absurd cc

blanks_ascii : (l : List ℕ) → AreBlanks l → AreAscii l
blanks_ascii [] w = tt
blanks_ascii (b ∷ l) w = (blank_ascii b w.0, blanks_ascii l w.1)

blanks_utf8 : (l : List ℕ) → AreBlanks l → IsUtf8 l
blanks_utf8 l w = ascii_utf8 l (blanks_ascii l w)

byte_utf8 : (b : ℕ) → b < 128 → (bs : List ℕ) → IsUtf8 bs → IsUtf8 (b ∷ bs)
byte_utf8 b small bs u = IsUtf8-append (b ∷ []) bs (ascii_utf8 (b ∷ []) (small, tt)) u

then_byte : (bs : List ℕ) (b : ℕ) → IsUtf8 bs → b < 128 → IsUtf8 (bs ++ b ∷ [])
then_byte bs b u small = IsUtf8-append bs (b ∷ []) u (ascii_utf8 (b ∷ []) (small, tt))

letter_ascii : (c v : ℕ) → Letter c v → c < 128
letter_ascii _ _ grammar.quote = omega arith
letter_ascii _ _ grammar.backslash = omega arith
letter_ascii _ _ grammar.slash = omega arith
letter_ascii _ _ grammar.b = omega arith
letter_ascii _ _ grammar.f = omega arith
letter_ascii _ _ grammar.n = omega arith
letter_ascii _ _ grammar.r = omega arith
letter_ascii _ _ grammar.t = omega arith

hex_ascii : (a b c d code : ℕ) → AreHex a b c d code → AreAscii (92 ∷ 117 ∷ a ∷ b ∷ c ∷ d ∷ [])
hex_ascii a b c d code h = (omega arith, (omega arith, ((hex_is a h.w h.w_is).2, ((hex_is b h.x h.x_is).2, ((hex_is c h.y h.y_is).2, ((hex_is d h.z h.z_is).2, tt))))))

pub piece_utf8 : {m stands : List ℕ} → Piece m stands → IsUtf8 m
piece_utf8 (plain m stands r) = subst IsUtf8 (sym r.is) (IsUtf8-encode r.c r.scalar)
piece_utf8 (letter m stands r) = subst IsUtf8 (sym r.is) (ascii_utf8 (92 ∷ r.c ∷ []) (omega arith, (letter_ascii r.c r.v r.names, tt)))
piece_utf8 (unit m stands r) = subst IsUtf8 (sym r.is) (ascii_utf8 (92 ∷ 117 ∷ r.a ∷ r.b ∷ r.c ∷ r.d ∷ []) (hex_ascii r.a r.b r.c r.d r.code r.hex))
piece_utf8 (pair m stands r) = subst IsUtf8 (sym r.is) (ascii_utf8 ((92 ∷ 117 ∷ r.a ∷ r.b ∷ r.c ∷ r.d ∷ []) ++ (92 ∷ 117 ∷ r.e ∷ r.f ∷ r.g ∷ r.h ∷ [])) (ascii_append (92 ∷ 117 ∷ r.a ∷ r.b ∷ r.c ∷ r.d ∷ []) (92 ∷ 117 ∷ r.e ∷ r.f ∷ r.g ∷ r.h ∷ []) (hex_ascii r.a r.b r.c r.d r.high r.first) (hex_ascii r.e r.f r.g r.h r.low r.second)))

pub raw_utf8 : {raw bytes : List ℕ} → Pieces raw bytes → IsUtf8 raw
raw_utf8 no_piece = IsUtf8-nil
raw_utf8 (one_more raw piece bytes stands begun one) = IsUtf8-append raw piece (raw_utf8 begun) (piece_utf8 one)

pub quoted_utf8 : (m bytes : List ℕ) → Quoted m bytes → IsUtf8 m
quoted_utf8 m bytes q = subst IsUtf8 (sym q.is) (byte_utf8 34 (omega arith) (q.raw ++ 34 ∷ []) (then_byte q.raw 34 (raw_utf8 q.pieces) (omega arith)))

mutual
  pub value_utf8 : {m : List ℕ} {v : Json} → grammar.Value m v → IsUtf8 m
  value_utf8 grammar.null = ascii_utf8 (110 ∷ 117 ∷ 108 ∷ 108 ∷ []) (omega arith, (omega arith, (omega arith, (omega arith, tt))))
  value_utf8 grammar.yes = ascii_utf8 (116 ∷ 114 ∷ 117 ∷ 101 ∷ []) (omega arith, (omega arith, (omega arith, (omega arith, tt))))
  value_utf8 grammar.no = ascii_utf8 (102 ∷ 97 ∷ 108 ∷ 115 ∷ 101 ∷ []) (omega arith, (omega arith, (omega arith, (omega arith, (omega arith, tt)))))
  value_utf8 (grammar.number ds l) = literal_utf8 ds l
  value_utf8 (grammar.text m bytes q) = quoted_utf8 m bytes q
  value_utf8 (grammar.empty_list w blank) = byte_utf8 91 (omega arith) (w ++ 93 ∷ []) (then_byte w 93 (blanks_utf8 w blank) (omega arith))
  value_utf8 (grammar.list a c ys x begun pd) = byte_utf8 91 (omega arith) (a ++ c ++ 93 ∷ []) (then_byte (a ++ c) 93 (IsUtf8-append a c (begun_utf8 begun) (padded_utf8 pd)) (omega arith))
  value_utf8 (grammar.empty_object w blank) = byte_utf8 123 (omega arith) (w ++ 125 ∷ []) (then_byte w 125 (blanks_utf8 w blank) (omega arith))
  value_utf8 (grammar.object a c ys x named fd) = byte_utf8 123 (omega arith) (a ++ c ++ 125 ∷ []) (then_byte (a ++ c) 125 (IsUtf8-append a c (named_utf8 named) (field_utf8 fd)) (omega arith))

  pub padded_utf8 : {c : List ℕ} {v : Json} → Padded c v → IsUtf8 c
  padded_utf8 (pad l m r v wl value wr) = IsUtf8-append (l ++ m) r (IsUtf8-append l m (blanks_utf8 l wl) (value_utf8 value)) (blanks_utf8 r wr)

  pub begun_utf8 : {a : List ℕ} {ys : List Json} → Begun a ys → IsUtf8 a
  begun_utf8 grammar.none = IsUtf8-nil
  begun_utf8 (grammar.more a c ys x begun pd) = then_byte (a ++ c) 44 (IsUtf8-append a c (begun_utf8 begun) (padded_utf8 pd)) (omega arith)

  pub field_utf8 : {c : List ℕ} {x : Member} → Field c x → IsUtf8 c
  field_utf8 (field l q r c name v wl quoted wr pd) = IsUtf8-append (l ++ q ++ r) (58 ∷ c) (IsUtf8-append (l ++ q) r (IsUtf8-append l q (blanks_utf8 l wl) (quoted_utf8 q name quoted)) (blanks_utf8 r wr)) (byte_utf8 58 (omega arith) c (padded_utf8 pd))

  pub named_utf8 : {a : List ℕ} {ys : List Member} → Named a ys → IsUtf8 a
  named_utf8 grammar.no_name = IsUtf8-nil
  named_utf8 (grammar.more_names a c ys x named fd) = then_byte (a ++ c) 44 (IsUtf8-append a c (named_utf8 named) (field_utf8 fd)) (omega arith)
