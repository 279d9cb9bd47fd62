-- Where a text in UTF-8 is cut by a token, both parts are UTF-8.
use Rattle.std.proofs.Common.{◌≡◌, ℕ, zero, suc, ℤ, ◌+◌, ◌-◌, ◌<◌, ◌≤◌, List, [], ◌∷◌, ◌++◌, take, drop, length, get_or, Bool, true, false, leb, IsUtf8, refl, sym, ap, subst, ◌∙◌, arith, ◌⊎◌, inl, inr}
use Rattle.std.specs.Str.{IsCharBoundary}
use Rattle.std.proofs.lemmas.Bool.{cases_lt, le-leb}
use Rattle.std.proofs.lemmas.List.{get_or-take, take_more, length-take-le, length-append, get_or-append-add}
use Rattle.std.proofs.lemmas.Str.{IsUtf8-nil, IsUtf8-take, IsUtf8-drop, IsCharBoundary-end, IsCharBoundary-before_ascii, IsCharBoundary-after_ascii}
use Rattle.std.proofs.Math.ListN.{drop_of_length-le}
use Rattle.std.proofs.Math.Seq.{take-append_seam}
use Rattle.sc_decimal.specs.Value.{is_number}
use Rattle.sc_decimal.specs.Numeral.{AreDigits, IsRow, Sign, no_sign, plus, minus, Mantissa, whole, mixed, fraction, Exponent, no_exponent, exponent}
use Rattle.sc_decimal.proofs.Parts.{digit_range}
use Rattle.sc_decimal.proofs.Numerals.{number_numeral}
use Rattle.sc_grammar.specs.declared.lexeme.Kind.TheVariants as kinds
use Rattle.sc_grammar.specs.Lexing.{is_blank}
use Rattle.sc_grammar.specs.Tokens.{goes_on, AreLetters, IsWord, NoneAbove, AreBlank}
use Rattle.sc_cqlvalue.specs.Literals.{within}

pub record Cut (bs : List ℕ) (n : ℕ) : Type 0 where
  pub front : IsUtf8 (take n bs)
  pub rest : IsUtf8 (drop n bs)

cut_at : (bs : List ℕ) (n : ℕ) → IsUtf8 bs → IsCharBoundary bs n → Cut bs n
cut_at bs n u at = record { front = IsUtf8-take bs n u at; rest = IsUtf8-drop bs n u at }

-- behind an ASCII byte
cut_behind : (bs : List ℕ) (n : ℕ) → IsUtf8 bs → 1 ≤ n → n ≤ length bs → get_or (take n bs) (n - 1) 0 < 128 → Cut bs n
cut_behind bs n u some le lt =
    let same : get_or (take n bs) (n - 1) 0 ≡ get_or bs (n - 1) 0 = get_or-take n bs (n - 1) 0 (omega arith) in
    let at : IsCharBoundary bs ((n - 1) + 1) = IsCharBoundary-after_ascii bs (n - 1) u (omega arith) (omega (arith, same, lt)) in
    let last : (n - 1) + 1 ≡ n = omega arith in
    cut_at bs n u (subst (IsCharBoundary bs) last at)

-- ---- white space

blank_small : (b : ℕ) → is_blank b ≡ true → b < 128
blank_small b h = grind arith

blanks_small : (bs : List ℕ) → AreBlank bs → (i : ℕ) → i < length bs → get_or bs i 0 < 128
blanks_small [] all i lt = absurd (omega arith)
blanks_small (b ∷ bs) all zero lt = blank_small b all.0
blanks_small (b ∷ bs) all (suc i) lt = blanks_small bs all.1 i (omega arith)

blanks_within : (bs : List ℕ) (n : ℕ) → IsUtf8 bs → n ≤ length bs → AreBlank (take n bs) → IsUtf8 (drop n bs)
blanks_within bs zero u le all = u
blanks_within bs (suc n) u le all = (cut_behind bs (suc n) u (omega arith) le (blanks_small (take (suc n) bs) all (suc n - 1) (omega (arith, length-take-le (suc n) bs le)))).rest

pub cut_blanks : (bs : List ℕ) (n : ℕ) → IsUtf8 bs → AreBlank (take n bs) → IsUtf8 (drop n bs)
cut_blanks bs n u all = elim (cases_lt n (length bs)) [
  | inl lt ↦ blanks_within bs n u (omega arith) all
  | inr ge ↦ subst IsUtf8 (sym (drop_of_length-le bs ge)) IsUtf8-nil
]

-- ---- words

small_or_on : (b : ℕ) → goes_on b ≡ false → b < 128
small_or_on b h = elim (cases_lt b 128) [
  | inl lt ↦ lt
  | inr ge ↦ let high : leb 128 b ≡ true = le-leb 128 b ge in absurd (grind (arith, high))
]

letters_more : (bs : List ℕ) (b : ℕ) → AreLetters bs → goes_on b ≡ true → AreLetters (bs ++ b ∷ [])
letters_more [] b all on = (on, tt)
letters_more (a ∷ bs) b all on = (all.0, letters_more bs b all.1 on)

word_more : (bs : List ℕ) (b : ℕ) → IsWord bs → goes_on b ≡ true → IsWord (bs ++ b ∷ [])
word_more [] b h on = absurd h
word_more (a ∷ bs) b h on = (h.0, letters_more bs b h.1 on)

word_ends : (bs : List ℕ) (n : ℕ) → n < length bs → IsWord (take n bs) → NoneAbove n bs → (on : Bool) → goes_on (get_or bs n 0) ≡ on → get_or bs n 0 < 128
word_ends bs n lt word most false e = small_or_on (get_or bs n 0) e
word_ends bs n lt word most true e =
    absurd (most (n + 1) kinds.Word (omega arith) (omega arith) (subst IsWord (sym (take_more bs n 0 lt)) (word_more (take n bs) (get_or bs n 0) word e)))

pub cut_word : (bs : List ℕ) (n : ℕ) → IsUtf8 bs → n ≤ length bs → IsWord (take n bs) → NoneAbove n bs → Cut bs n
cut_word bs n u le word most = elim (cases_lt n (length bs)) [
  | inl lt ↦ cut_at bs n u (IsCharBoundary-before_ascii bs n lt (word_ends bs n lt word most (goes_on (get_or bs n 0)) refl))
  | inr ge ↦ let end : length bs ≡ n = omega arith in cut_at bs n u (subst (IsCharBoundary bs) end (IsCharBoundary-end bs))
]

-- ---- numbers and signs

abbrev pub AllAscii : List ℕ → Type 0
AllAscii [] = Unit {0}
AllAscii (b ∷ bs) = (b < 128) × AllAscii bs

ascii_at : (bs : List ℕ) → AllAscii bs → (i : ℕ) → i < length bs → get_or bs i 0 < 128
ascii_at [] all i lt = absurd (omega arith)
ascii_at (b ∷ bs) all zero lt = all.0
ascii_at (b ∷ bs) all (suc i) lt = ascii_at bs all.1 i (omega arith)

ascii_both : (xs ys : List ℕ) → AllAscii xs → AllAscii ys → AllAscii (xs ++ ys)
ascii_both [] ys all each = each
ascii_both (x ∷ xs) ys all each = (all.0, ascii_both xs ys all.1 each)

digits_ascii : (ds : List ℕ) → AreDigits ds → AllAscii ds
digits_ascii [] all = tt
digits_ascii (d ∷ ds) all = let r = digit_range d all.0 in (omega (arith, r.1), digits_ascii ds all.1)

row_ascii : (ds : List ℕ) → IsRow ds → AllAscii ds
row_ascii [] h = absurd h
row_ascii (d ∷ ds) h = let r = digit_range d h.0 in (omega (arith, r.1), digits_ascii ds h.1)

sign_ascii : {s : List ℕ} {neg : Bool} → Sign s neg → AllAscii s
sign_ascii no_sign = tt
sign_ascii plus = (omega arith, tt)
sign_ascii minus = (omega arith, tt)

mantissa_ascii : {m ds : List ℕ} {p : ℕ} → Mantissa m ds p → AllAscii m
mantissa_ascii (whole ds h) = row_ascii ds h
mantissa_ascii (mixed ds fs h k) = ascii_both ds (46 ∷ fs) (row_ascii ds h) (omega arith, row_ascii fs k)
mantissa_ascii (fraction fs h) = (omega arith, row_ascii fs h)

mark_small : (mark : ℕ) → (mark ≡ 101) ⊎ (mark ≡ 69) → mark < 128
mark_small mark (inl e) = omega arith
mark_small mark (inr e) = omega arith

exponent_ascii : {x : List ℕ} {e : ℤ} → Exponent x e → AllAscii x
exponent_ascii no_exponent = tt
exponent_ascii (exponent mark s ds neg m h k) = (mark_small mark m, ascii_both s ds (sign_ascii h) (row_ascii ds k))

pub number_ascii : (bytes : List ℕ) → is_number bytes ≡ true → AllAscii bytes
number_ascii bytes h =
    let n = number_numeral bytes h in
    subst AllAscii (sym n.text_is) (ascii_both n.sign (n.mantissa ++ n.power) (sign_ascii n.is_sign) (ascii_both n.mantissa n.power (mantissa_ascii n.is_mantissa) (exponent_ascii n.is_exponent)))

pub cut_ascii : (bs : List ℕ) (n : ℕ) → IsUtf8 bs → 1 ≤ n → n ≤ length bs → AllAscii (take n bs) → Cut bs n
cut_ascii bs n u some le all = cut_behind bs n u some le (ascii_at (take n bs) all (n - 1) (omega (arith, length-take-le n bs le)))

-- ---- quotes

abbrev pub quoted : ℕ → List ℕ → List ℕ
quoted quote inside = quote ∷ (inside ++ quote ∷ [])

last_quote : (quote : ℕ) (inside : List ℕ) → get_or (quoted quote inside) (length (quoted quote inside) - 1) 0 ≡ quote
last_quote quote inside =
    let place : length (quoted quote inside) - 1 ≡ length (quote ∷ inside) + 0 = omega (arith, length-append inside (quote ∷ [])) in
    ap (λ (i : ℕ). get_or (quoted quote inside) i 0) place ∙ get_or-append-add (quote ∷ inside) (quote ∷ []) 0 0

pub cut_quoted : (bs : List ℕ) (n quote : ℕ) (inside : List ℕ) → IsUtf8 bs → n ≤ length bs → quote < 128 → take n bs ≡ quoted quote inside → Cut bs n
cut_quoted bs n quote inside u le small is =
    let long : n ≡ length (quoted quote inside) = sym (length-take-le n bs le) ∙ ap length is in
    let last : get_or (take n bs) (n - 1) 0 ≡ quote =
    ap (λ (xs : List ℕ). get_or xs (n - 1) 0) is ∙ ap (λ (i : ℕ). get_or (quoted quote inside) (i - 1) 0) long ∙ last_quote quote inside in
    cut_behind bs n u (omega (arith, long, length-append inside (quote ∷ []))) le (omega (arith, last, small))

pub within_is : (quote : ℕ) (inside : List ℕ) → within (quoted quote inside) ≡ inside
within_is quote inside =
    let count : length (quoted quote inside) - 2 ≡ length inside = omega (arith, length-append inside (quote ∷ [])) in
    ap (λ (i : ℕ). take i (inside ++ quote ∷ [])) count ∙ take-append_seam inside (quote ∷ [])

pub inside_utf8 : (quote : ℕ) (inside : List ℕ) → quote < 128 → IsUtf8 (quoted quote inside) → IsUtf8 inside
inside_utf8 quote inside small u =
    let behind : IsUtf8 (inside ++ quote ∷ []) = IsUtf8-drop (quoted quote inside) 1 u (IsCharBoundary-after_ascii (quoted quote inside) 0 u (omega arith) small) in
    let at : get_or (inside ++ quote ∷ []) (length inside) 0 ≡ quote = ap (λ (i : ℕ). get_or (inside ++ quote ∷ []) i 0) (omega arith) ∙ get_or-append-add inside (quote ∷ []) 0 0 in
    subst IsUtf8 (take-append_seam inside (quote ∷ []))
    (IsUtf8-take (inside ++ quote ∷ []) (length inside) behind
    (IsCharBoundary-before_ascii (inside ++ quote ∷ []) (length inside) (omega (arith, length-append inside (quote ∷ []))) (omega (arith, at, small))))
