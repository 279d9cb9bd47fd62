-- What the machine has read of a number or a text in quotes is a front of it.
use Rattle.std.proofs.Common.{◌≡◌, ◌⊎◌, inl, inr, ℕ, ◌+◌, ◌*◌, ◌<◌, ◌≤◌, List, [], ◌∷◌, ◌++◌, Some, refl, sym, ap, subst, ◌∙◌, arith, append_assoc}
use Rattle.std.specs.Char.{encode_utf8}
use Rattle.std.proofs.lemmas.Bool.{cases_lt}
use Rattle.std.proofs.lemmas.List.{append-nil}
use Rattle.sc_json.specs.declared.state.Part.{Part}
use Rattle.sc_json.specs.declared.state.Part.TheVariants as parts
use Rattle.sc_json.specs.declared.state.Piece as pieces
use Rattle.sc_json.specs.declared.state.Piece.TheVariants.{Plain, Slash, Unit as Units, Unit1, Unit2, Unit3, Pair, PairSlash, Low, Low1, Low2, Low3}
use Rattle.sc_json.specs.Hex.{hex_of, halves}
use Rattle.sc_json.specs.Grammar as grammar
use Rattle.sc_json.specs.Grammar.{AreHex, Literal, literal, Pieces}
use Rattle.sc_json.specs.Fronts.{Escape, by_letter, by_unit, by_pair, TextFront, unclosed}
use Rattle.sc_json.proofs.Hexadecimal.{hex_is}
use Rattle.sc_json.proofs.SoundNumbers.{InPart, IsInteger, IsMantissa, part_literal}
use Rattle.sc_json.proofs.SoundTexts.{AtPiece, IsHigh}

-- ---- numbers

pub record GoesOn (ds : List ℕ) : Type 0 where
  pub rest : List ℕ
  pub whole : Literal (ds ++ rest)

whole_goes_on : (ds : List ℕ) → Literal ds → GoesOn ds
whole_goes_on ds l = record { rest = []; whole = subst Literal (sym (append-nil ds)) l }

point_on : (ds i : List ℕ) → IsInteger i → ds ≡ i ++ 46 ∷ [] → GoesOn ds
point_on ds i h e = record {
  rest = 48 ∷ [];
  whole = subst Literal (text ds i h.s h.w e h.is) (literal h.s h.w (46 ∷ 48 ∷ []) [] h.minus h.whole (grammar.fraction 48 [] refl tt) grammar.no_power);
}
  where
    text : (ds i s w : List ℕ) → ds ≡ i ++ 46 ∷ [] → i ≡ s ++ w → s ++ w ++ (46 ∷ 48 ∷ []) ++ [] ≡ ds ++ 48 ∷ []
    text ds i s w e f = append-nil (s ++ w ++ (46 ∷ 48 ∷ [])) ∙ ap (λ (x : List ℕ). x ++ 46 ∷ 48 ∷ []) (sym f) ∙ sym (append_assoc i (46 ∷ []) (48 ∷ [])) ∙ ap (λ (x : List ℕ). x ++ 48 ∷ []) (sym e)

mark_on : (ds m : List ℕ) (mark : ℕ) (s : List ℕ) → IsMantissa m → (mark ≡ 101) ⊎ (mark ≡ 69) → grammar.Sign s → ds ≡ m ++ mark ∷ s → GoesOn ds
mark_on ds m mark s h is sign e = record {
  rest = 48 ∷ [];
  whole = subst Literal (ap (λ (x : List ℕ). x ++ mark ∷ (s ++ 48 ∷ [])) (sym h.is) ∙ sym (append_assoc m (mark ∷ s) (48 ∷ [])) ∙ ap (λ (x : List ℕ). x ++ 48 ∷ []) (sym e))
      (literal h.s h.w h.f (mark ∷ (s ++ 48 ∷ [])) h.minus h.whole h.fraction (grammar.power mark s [] 48 is sign refl tt));
}

pub number_front : (p : Part) (ds : List ℕ) → InPart p ds → GoesOn ds
number_front parts.Minus ds h = record { rest = 48 ∷ []; whole = subst Literal (ap (λ (x : List ℕ). x ++ 48 ∷ []) (sym h)) (literal (45 ∷ []) (48 ∷ []) [] [] grammar.negative grammar.zero_digit grammar.no_fraction grammar.no_power) }
number_front parts.Zero ds h = whole_goes_on ds (part_literal parts.Zero ds refl h)
number_front parts.Whole ds h = whole_goes_on ds (part_literal parts.Whole ds refl h)
number_front parts.Point ds h = point_on ds h.i h.integer h.is
number_front parts.Fraction ds h = whole_goes_on ds (part_literal parts.Fraction ds refl h)
number_front parts.Mark ds h = mark_on ds h.m h.mark [] h.mantissa h.mark_is grammar.no_sign h.is
number_front parts.Sign ds h = mark_on ds h.m h.mark (h.s ∷ []) h.mantissa h.mark_is h.sign h.is
number_front parts.Power ds h = whole_goes_on ds (part_literal parts.Power ds refl h)

-- ---- escapes

record EscapeOn (e : List ℕ) : Type 0 where
  rest : List ℕ
  whole : Escape (e ++ rest)

unit_here : (m : List ℕ) (a b c d code : ℕ) → AreHex a b c d code → (code < 55296) ⊎ (57344 ≤ code) → m ≡ 92 ∷ 117 ∷ a ∷ b ∷ c ∷ d ∷ [] → Escape m
unit_here m a b c d code hex single e = by_unit m (encode_utf8 code) (record { a = a; b = b; c = c; d = d; code = code; hex = hex; single = single; is = e; stands_is = refl })

pair_here : (m n : List ℕ) (high : ℕ) → IsHigh high n → (a b c d low : ℕ) → AreHex a b c d low → 56320 ≤ low → low < 57344 → m ≡ n ++ 92 ∷ 117 ∷ a ∷ b ∷ c ∷ d ∷ [] → Escape m
pair_here m n high h a b c d low hex from_low to_low e = by_pair m (encode_utf8 (halves high low)) (record {
  a = h.a;
  b = h.b;
  c = h.c;
  d = h.d;
  e = a;
  f = b;
  g = c;
  h = d;
  high = high;
  low = low;
  first = h.hex;
  from_high = h.from_high;
  to_high = h.to_high;
  second = hex;
  from_low = from_low;
  to_low = to_low;
  is = e ∙ ap (λ (x : List ℕ). x ++ 92 ∷ 117 ∷ a ∷ b ∷ c ∷ d ∷ []) h.is;
  stands_is = refl;
})

first_low : AreHex 68 67 48 48 56320
first_low = record { w = 13; x = 12; y = 0; z = 0; w_is = refl; x_is = refl; y_is = refl; z_is = refl; code_is = refl }

-- behind a high surrogate's escape, the least low one
pair_on : (e n : List ℕ) (high : ℕ) → IsHigh high n → (begin rest : List ℕ) → begin ++ rest ≡ 92 ∷ 117 ∷ 68 ∷ 67 ∷ 48 ∷ 48 ∷ [] → e ≡ n ++ begin → EscapeOn e
pair_on e n high h begin rest f is = record { rest = rest; whole = pair_here (e ++ rest) n high h 68 67 48 48 56320 first_low (omega arith) (omega arith) (ap (λ (x : List ℕ). x ++ rest) is ∙ append_assoc n begin rest ∙ ap (λ (x : List ℕ). n ++ x) f) }

-- four digits, of a high surrogate or of none
four_on : (e : List ℕ) (a b c d w x y z code : ℕ) → hex_of a ≡ Some w → hex_of b ≡ Some x → hex_of c ≡ Some y → hex_of d ≡ Some z → code ≡ ((w * 16 + x) * 16 + y) * 16 + z → (w ≡ 13 → x < 12) → (rest : List ℕ) → e ++ rest ≡ 92 ∷ 117 ∷ a ∷ b ∷ c ∷ d ∷ [] → EscapeOn e
four_on e a b c d w x y z code ha hb hc hd is small rest f =
    let xs = (hex_is b x hb).1 in
    let ys = (hex_is c y hc).1 in
    let zs = (hex_is d z hd).1 in
    let hex : AreHex a b c d code = record { w = w; x = x; y = y; z = z; w_is = ha; x_is = hb; y_is = hc; z_is = hd; code_is = is } in
    elim (cases_lt code 55296) [
      | inl low ↦ record { rest = rest; whole = unit_here (e ++ rest) a b c d code hex (inl low) f }
      | inr from ↦ elim (cases_lt code 56320) [
        | inl to ↦
            let n : List ℕ = 92 ∷ 117 ∷ a ∷ b ∷ c ∷ d ∷ [] in
            let high : IsHigh code n = record { a = a; b = b; c = c; d = d; hex = hex; from_high = from; to_high = to; is = refl } in
            let more : List ℕ = 92 ∷ 117 ∷ 68 ∷ 67 ∷ 48 ∷ 48 ∷ [] in
            record { rest = rest ++ more; whole = pair_here (e ++ (rest ++ more)) n code high 68 67 48 48 56320 first_low (omega arith) (omega arith) (sym (append_assoc e rest more) ∙ ap (λ (x : List ℕ). x ++ more) f) }
        | inr past ↦ record { rest = rest; whole = unit_here (e ++ rest) a b c d code hex (inr (beyond w x y z code is xs ys zs small past)) f }
      ]
    ]
  where
    beyond : (w x y z code : ℕ) → code ≡ ((w * 16 + x) * 16 + y) * 16 + z → x < 16 → y < 16 → z < 16 → (w ≡ 13 → x < 12) → 56320 ≤ code → 57344 ≤ code
    beyond w x y z code is xs ys zs small past = elim (cases_lt w 14) [
      | inr ge ↦ omega (arith, is, ge)
      | inl lt ↦ elim (cases_lt w 13) [
        | inl less ↦ absurd (omega (arith, is, xs, ys, zs, less, past))
        | inr ge ↦ let few = small (omega (arith, lt, ge)) in absurd (omega (arith, is, lt, few, ys, zs, past))
      ]
    ]

low_on : (e n : List ℕ) (high : ℕ) → IsHigh high n → (a b c d x y z : ℕ) → hex_of a ≡ Some 13 → hex_of b ≡ Some x → hex_of c ≡ Some y → hex_of d ≡ Some z → 12 ≤ x → (begin rest : List ℕ) → begin ++ rest ≡ 92 ∷ 117 ∷ a ∷ b ∷ c ∷ d ∷ [] → e ≡ n ++ begin → EscapeOn e
low_on e n high h a b c d x y z ha hb hc hd ge begin rest f is =
    let xs = (hex_is b x hb).1 in
    let ys = (hex_is c y hc).1 in
    let zs = (hex_is d z hd).1 in
    record {
      rest = rest;
      whole = pair_here (e ++ rest) n high h a b c d (((13 * 16 + x) * 16 + y) * 16 + z) (record { w = 13; x = x; y = y; z = z; w_is = ha; x_is = hb; y_is = hc; z_is = hd; code_is = refl }) (omega (arith, ge)) (omega (arith, xs, ys, zs)) (ap (λ (t : List ℕ). t ++ rest) is ∙ append_assoc n begin rest ∙ ap (λ (t : List ℕ). n ++ t) f);
    }

escape_on : (p : pieces.Piece) (e : List ℕ) → AtPiece p e → EscapeOn e
escape_on Plain e h = record { rest = 92 ∷ 34 ∷ []; whole = by_letter _ (34 ∷ []) (record { c = 34; v = 34; names = grammar.quote; is = ap (λ (x : List ℕ). x ++ 92 ∷ 34 ∷ []) h; stands_is = refl }) }
escape_on Slash e h = record { rest = 34 ∷ []; whole = by_letter _ (34 ∷ []) (record { c = 34; v = 34; names = grammar.quote; is = ap (λ (x : List ℕ). x ++ 34 ∷ []) h; stands_is = refl }) }
escape_on Units e h = four_on e 48 48 48 48 0 0 0 0 0 refl refl refl refl refl (λ q. absurd (omega (arith, q))) (48 ∷ 48 ∷ 48 ∷ 48 ∷ []) (ap (λ (x : List ℕ). x ++ 48 ∷ 48 ∷ 48 ∷ 48 ∷ []) h)
escape_on (Unit1 w) e h = four_on e h.a 48 48 48 w 0 0 0 (((w * 16 + 0) * 16 + 0) * 16 + 0) h.w_is refl refl refl refl (λ q. omega arith) (48 ∷ 48 ∷ 48 ∷ []) (ap (λ (x : List ℕ). x ++ 48 ∷ 48 ∷ 48 ∷ []) h.is)
escape_on (Unit2 two) e h = four_on e h.a h.b 48 48 h.w h.x 0 0 (((h.w * 16 + h.x) * 16 + 0) * 16 + 0) h.w_is h.x_is refl refl refl h.no_low (48 ∷ 48 ∷ []) (ap (λ (x : List ℕ). x ++ 48 ∷ 48 ∷ []) h.is)
escape_on (Unit3 three) e h = four_on e h.a h.b h.c 48 h.w h.x h.y 0 (((h.w * 16 + h.x) * 16 + h.y) * 16 + 0) h.w_is h.x_is h.y_is refl refl h.no_low (48 ∷ []) (ap (λ (x : List ℕ). x ++ 48 ∷ []) h.is)
escape_on (Pair high) e h = pair_on e e high h [] (92 ∷ 117 ∷ 68 ∷ 67 ∷ 48 ∷ 48 ∷ []) refl (sym (append-nil e))
escape_on (PairSlash high) e h = pair_on e h.m high h.first (92 ∷ []) (117 ∷ 68 ∷ 67 ∷ 48 ∷ 48 ∷ []) refl h.is
escape_on (Low high) e h = pair_on e h.m high h.first (92 ∷ 117 ∷ []) (68 ∷ 67 ∷ 48 ∷ 48 ∷ []) refl h.is
escape_on (Low1 high) e h = low_on e h.m high h.first h.a 67 48 48 12 0 0 h.w_is refl refl refl (omega arith) (92 ∷ 117 ∷ h.a ∷ []) (67 ∷ 48 ∷ 48 ∷ []) refl h.is
escape_on (Low2 high low) e h = low_on e h.m high h.first h.a h.b 48 48 low 0 0 h.w_is h.x_is refl refl h.from_twelve (92 ∷ 117 ∷ h.a ∷ h.b ∷ []) (48 ∷ 48 ∷ []) refl h.is
escape_on (Low3 high low) e h = low_on e h.m high h.first h.a h.b h.c 48 h.x h.y 0 h.w_is h.x_is h.y_is refl h.from_twelve (92 ∷ 117 ∷ h.a ∷ h.b ∷ h.c ∷ []) (48 ∷ []) refl h.is

-- a text that isn't closed, of whole characters
pub text_front : (raw bytes e : List ℕ) (p : pieces.Piece) → Pieces raw bytes → AtPiece p e → TextFront (34 ∷ (raw ++ e))
text_front raw bytes e p begun place = let r = escape_on p e place in unclosed raw bytes e r.rest begun r.whole
