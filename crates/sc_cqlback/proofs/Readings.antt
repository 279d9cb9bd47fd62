-- A text of tokens is read as these tokens.
use Rattle.std.proofs.Common.{◌≡◌, ℕ, ◌+◌, ◌-◌, ◌<◌, List, [], ◌∷◌, ◌++◌, length, drop, Some, Bool, true, false, ◌||◌, eqb, inl, inr, refl, sym, ap, subst, ◌∙◌, append_assoc, append-nil, length-append, arith}
use Rattle.std.proofs.Math.Seq.{drop-append_seam, take-append_seam}
use Rattle.std.proofs.lemmas.Bool.{false≢true, or_cases, or_right, eqb-true, eq-eqb, ne_eqb, cases_Bool}
use Rattle.sc_grammar.specs.declared.lexeme.Kind.{Kind}
use Rattle.sc_grammar.specs.declared.lexeme.Kind.TheVariants as kinds
use Rattle.sc_grammar.specs.declared.lexeme.Lexeme.{Lexeme}
use Rattle.sc_grammar.specs.declared.token.Class.TheVariants as classes
use Rattle.sc_grammar.specs.declared.token.Token.{Token as Told}
use Rattle.sc_grammar.specs.Lexing.{is_letter, is_blank, blank_len, longest, found_at, lexeme_from, lexeme_at}
use Rattle.sc_grammar.specs.Tokens.{IsToken}
use Rattle.sc_grammar.specs.Words.{word_of, bytes_of, token_at, token_of, class_by}
use Rattle.sc_grammar.specs.Words as words
use Rattle.sc_grammar.proofs.Longest.{nothing_is_no_token}
use Rattle.sc_expr.specs.declared.expr.CompOp.TheVariants.{Eq, Ne, Lt, Gt, Le, Ge}
use Rattle.sc_cqlwrite.specs.Tokens as tokens
use Rattle.sc_cqlwrite.specs.Tokens.{Token, spelled, holds_next, is_held, blank_unless, behind, text_of}
use Rattle.sc_cqlback.specs.Read.{class_of, AreRead}
use Rattle.sc_cqlback.proofs.Longest.{BeginsWithEdge, is_number_byte, number_bytes, token_longest, opening_longest}
use Rattle.sc_cqlback.proofs.Lexical.{kind_of, is_opening, begins_opening, is_function, IsFollowed, IsMeant, IsWhole, IsLexical}

-- ---- what follows a token

edge_by : (tight : Bool) (v : Token) (rest : List ℕ) → (tight ≡ true → is_opening v ≡ true) → BeginsWithEdge (blank_unless (tight || is_held v) ++ spelled v ++ rest)
unfolding spelled
edge_by false (tokens.word w) rest h = inl refl
edge_by false (tokens.function w) rest h = inl refl
edge_by false (tokens.name n) rest h = inl refl
edge_by false (tokens.text t) rest h = inl refl
edge_by false (tokens.number n) rest h = inl refl
edge_by false (tokens.sign op) rest h = inl refl
edge_by false tokens.opening rest h = inl refl
edge_by false tokens.closing rest h = inr (inr (inl refl))
edge_by false tokens.comma rest h = inr (inr (inr refl))
edge_by true (tokens.word w) rest h = absurd (false≢true (h refl))
edge_by true (tokens.function w) rest h = absurd (false≢true (h refl))
edge_by true (tokens.name n) rest h = absurd (false≢true (h refl))
edge_by true (tokens.text t) rest h = absurd (false≢true (h refl))
edge_by true (tokens.number n) rest h = absurd (false≢true (h refl))
edge_by true (tokens.sign op) rest h = absurd (false≢true (h refl))
edge_by true tokens.opening rest h = inr (inl refl)
edge_by true tokens.closing rest h = absurd (false≢true (h refl))
edge_by true tokens.comma rest h = absurd (false≢true (h refl))

edge_behind : (u : Token) (us : List Token) → (holds_next u ≡ true → begins_opening us ≡ true) → BeginsWithEdge (behind u us)
unfolding behind
edge_behind u [] h = tt
edge_behind u (v ∷ vs) h = edge_by (holds_next u) v (behind v vs) h

-- a token that isn't an opening parenthesis holds the next only where that is one
is_loose : (u : Token) (us : List Token) → is_opening u ≡ false → IsFollowed u us → holds_next u ≡ true → begins_opening us ≡ true
is_loose (tokens.word w) us o f h = absurd (false≢true h)
is_loose (tokens.function w) us o f h = f
is_loose (tokens.name n) us o f h = absurd (false≢true h)
is_loose (tokens.text t) us o f h = absurd (false≢true h)
is_loose (tokens.number n) us o f h = absurd (false≢true h)
is_loose (tokens.sign op) us o f h = absurd (false≢true h)
is_loose tokens.opening us o f h = absurd (false≢true (sym o))
is_loose tokens.closing us o f h = absurd (false≢true h)
is_loose tokens.comma us o f h = absurd (false≢true h)

opening_is : (u : Token) → is_opening u ≡ true → u ≡ tokens.opening
opening_is (tokens.word w) o = absurd (false≢true o)
opening_is (tokens.function w) o = absurd (false≢true o)
opening_is (tokens.name n) o = absurd (false≢true o)
opening_is (tokens.text t) o = absurd (false≢true o)
opening_is (tokens.number n) o = absurd (false≢true o)
opening_is (tokens.sign op) o = absurd (false≢true o)
opening_is tokens.opening o = refl
opening_is tokens.closing o = absurd (false≢true o)
opening_is tokens.comma o = absurd (false≢true o)

-- ---- the longest token

abbrev IsLongestHere : Token → List ℕ → Type 0
IsLongestHere u rest = longest (spelled u ++ rest) ≡ Some (kind_of u, length (spelled u))

opening_here : (rest : List ℕ) → IsLongestHere tokens.opening rest
unfolding spelled
opening_here rest = opening_longest rest

longest_here : (u : Token) (us : List Token) → IsWhole u → IsFollowed u us → IsLongestHere u (behind u us)
longest_here u us whole followed =
    elim (cases_Bool (is_opening u)) [
      | inl o ↦ subst (λ (v : Token). IsLongestHere v (behind u us)) (sym (opening_is u o)) (opening_here (behind u us))
      | inr o ↦ token_longest (spelled u) (behind u us) (kind_of u) whole.whole (edge_behind u us (is_loose u us o followed))
    ]

-- ---- blanks

-- what tokens begin with
abbrev is_start : ℕ → Bool
is_start b = is_number_byte b || is_letter b || eqb b 34 || eqb b 39 || eqb b 61 || eqb b 60 || eqb b 62 || eqb b 40 || eqb b 41 || eqb b 44

start_at : (b n : ℕ) → b ≡ n → is_start n ≡ true → is_start b ≡ true
start_at b n e h = subst (λ (m : ℕ). is_start m ≡ true) (sym e) h

letter_starts : (b : ℕ) → is_letter b ≡ true → is_start b ≡ true
letter_starts b h = rw (or_right (is_number_byte b) (is_letter b) h) refl

number_starts : (b : ℕ) → is_number_byte b ≡ true → is_start b ≡ true
number_starts b h = rw h refl

head_is : (b c : ℕ) (bs cs : List ℕ) → b ∷ bs ≡ c ∷ cs → b ≡ c
head_is b c bs cs e = cc

token_starts : (k : Kind) (b : ℕ) (bs : List ℕ) → IsToken k (b ∷ bs) → is_start b ≡ true
token_starts kinds.Word b bs h = letter_starts b h.0
token_starts kinds.QuotedName b bs h = start_at b 34 (head_is b 34 bs (h.inside ++ 34 ∷ []) h.quoted) refl
token_starts kinds.Text b bs h = start_at b 39 (head_is b 39 bs (h.inside ++ 39 ∷ []) h.quoted) refl
token_starts kinds.Number b bs h = number_starts b (number_bytes (b ∷ bs) h).0
token_starts kinds.Equal b bs h = start_at b 61 (head_is b 61 bs [] h) refl
token_starts kinds.NotEqual b bs h = start_at b 60 (head_is b 60 bs (62 ∷ []) h) refl
token_starts kinds.Less b bs h = start_at b 60 (head_is b 60 bs [] h) refl
token_starts kinds.Greater b bs h = start_at b 62 (head_is b 62 bs [] h) refl
token_starts kinds.AtMost b bs h = start_at b 60 (head_is b 60 bs (61 ∷ []) h) refl
token_starts kinds.AtLeast b bs h = start_at b 62 (head_is b 62 bs (61 ∷ []) h) refl
token_starts kinds.Opening b bs h = start_at b 40 (head_is b 40 bs [] h) refl
token_starts kinds.Closing b bs h = start_at b 41 (head_is b 41 bs [] h) refl
token_starts kinds.Comma b bs h = start_at b 44 (head_is b 44 bs [] h) refl
token_starts kinds.Bad b bs h = absurd h
token_starts kinds.End b bs h = absurd h

no_start : (b n : ℕ) → eqb b n ≡ true → is_start n ≡ false → is_start b ≡ true → ⊥
no_start b n e none h = false≢true (sym none ∙ subst (λ (m : ℕ). is_start m ≡ true) (eqb-true b n e) h)

blank_starts_none : (b : ℕ) → is_blank b ≡ true → is_start b ≡ true → ⊥
blank_starts_none b blank starts =
    elim (or_cases ((eqb b 32 || eqb b 10) || eqb b 13) (eqb b 9) blank) [
      | inl h3 ↦ elim (or_cases (eqb b 32 || eqb b 10) (eqb b 13) h3) [
        | inl h2 ↦ elim (or_cases (eqb b 32) (eqb b 10) h2) [
          | inl e ↦ no_start b 32 e refl starts
          | inr e ↦ no_start b 10 e refl starts
        ]
        | inr e ↦ no_start b 13 e refl starts
      ]
      | inr e ↦ no_start b 9 e refl starts
    ]

first_not_blank : (k : Kind) (b : ℕ) (bs : List ℕ) → IsToken k (b ∷ bs) → is_blank b ≡ false
first_not_blank k b bs whole =
    elim (cases_Bool (is_blank b)) [
      | inl blank ↦ absurd (blank_starts_none b blank (token_starts k b bs whole))
      | inr no_blank ↦ no_blank
    ]

blanks_before : (tight : Bool) (c : ℕ) (cs : List ℕ) → is_blank c ≡ false → blank_len (blank_unless tight ++ c ∷ cs) ≡ length (blank_unless tight)
unfolding blank_len
blanks_before true c cs h = rw h refl
blanks_before false c cs h = rw h refl

-- ---- the token at a place

record IsAt (text front : List ℕ) (at : ℕ) (tight : Bool) (t : Token) (rest : List ℕ) : Type 0 where
  text_is : text ≡ front ++ (blank_unless tight ++ (spelled t ++ rest))
  at_is : at ≡ length front
  whole : IsToken (kind_of t) (spelled t)
  longest_is : IsLongestHere t rest

abbrev from_of : ℕ → Bool → ℕ
from_of at tight = at + length (blank_unless tight)

abbrev lexeme_of : ℕ → Bool → Token → Lexeme
lexeme_of at tight t = record { kind = kind_of t; from = from_of at tight; to = from_of at tight + length (spelled t) }

drop_front : (front rest text : List ℕ) (at : ℕ) → text ≡ front ++ rest → at ≡ length front → drop at text ≡ rest
drop_front front rest text at e p = rw (e, p) (drop-append_seam front rest)

spelled_blanks : (tight : Bool) (k : Kind) (bytes rest : List ℕ) → IsToken k bytes → blank_len (blank_unless tight ++ (bytes ++ rest)) ≡ length (blank_unless tight)
spelled_blanks tight k [] rest whole = absurd (nothing_is_no_token k whole)
spelled_blanks tight k (b ∷ bs) rest whole = blanks_before tight b (bs ++ rest) (first_not_blank k b bs whole)

some_length : (k : Kind) (bytes : List ℕ) → IsToken k bytes → 0 < length bytes
some_length k [] whole = absurd (nothing_is_no_token k whole)
some_length k (b ∷ bs) whole = omega arith

module _ (text front : List ℕ) (at : ℕ) (tight : Bool) (t : Token) (rest : List ℕ) (here : IsAt text front at tight t rest) where
  behind_blanks : drop (from_of at tight) text ≡ spelled t ++ rest
  behind_blanks =
      drop_front (front ++ blank_unless tight) (spelled t ++ rest) text (from_of at tight)
      (here.text_is ∙ sym (append_assoc front (blank_unless tight) (spelled t ++ rest)))
      (omega (arith, here.at_is, length-append front (blank_unless tight)))

  past_blanks : at + blank_len (drop at text) ≡ from_of at tight
  past_blanks =
      ap (λ (x : List ℕ). at + blank_len x) (drop_front front (blank_unless tight ++ (spelled t ++ rest)) text at here.text_is here.at_is)
      ∙ ap (λ (n : ℕ). at + n) (spelled_blanks tight (kind_of t) (spelled t) rest here.whole)

  not_over : from_of at tight ≡ length text → ⊥
  not_over over =
      let some = some_length (kind_of t) (spelled t) here.whole in
      let size : length text ≡ length front + (length (blank_unless tight) + (length (spelled t) + length rest)) =
      ap length here.text_is ∙ (length-append front (blank_unless tight ++ (spelled t ++ rest)) ∙ ap (λ (n : ℕ). length front + n) (length-append (blank_unless tight) (spelled t ++ rest) ∙ ap (λ (n : ℕ). length (blank_unless tight) + n) (length-append (spelled t) rest))) in
      omega (arith, here.at_is)

  lexeme_is : lexeme_at text true at ≡ lexeme_of at tight t
  unfolding lexeme_at
  lexeme_is =
      ap (lexeme_from text true) past_blanks
      ∙ rw (ne_eqb (from_of at tight) (length text) not_over) (ap (found_at (from_of at tight)) (ap longest behind_blanks ∙ here.longest_is))

  bytes_are : bytes_of text (from_of at tight) (from_of at tight + length (spelled t)) ≡ spelled t
  bytes_are =
      let count : from_of at tight + length (spelled t) - from_of at tight ≡ length (spelled t) = omega arith in
      rw (count, behind_blanks) (take-append_seam (spelled t) rest)

-- ---- its class

-- the token that is told there
told : List ℕ → ℕ → Bool → Token → Told
told text at tight t = token_of text true (lexeme_of at tight t)

told_class : (text front : List ℕ) (at : ℕ) (tight : Bool) (t : Token) (rest : List ℕ) → IsAt text front at tight t rest → IsMeant t
    → (is_function t ≡ true → words.is_opening (lexeme_at text true (from_of at tight + length (spelled t))) ≡ true) → (told text at tight t).class ≡ class_of t
unfolding told spelled
told_class text front at tight (tokens.word w) rest here meant next =
    ap (λ (x : List ℕ). class_by text (word_of x) (lexeme_at text true (from_of at tight + length w))) (bytes_are text front at tight (tokens.word w) rest here) ∙ meant text _
told_class text front at tight (tokens.function w) rest here meant next =
    ap (λ (x : List ℕ). class_by text (word_of x) (lexeme_at text true (from_of at tight + length w))) (bytes_are text front at tight (tokens.function w) rest here) ∙ meant text _ (next refl)
told_class text front at tight (tokens.name n) rest here meant next = refl
told_class text front at tight (tokens.text t) rest here meant next = refl
told_class text front at tight (tokens.number n) rest here meant next = refl
told_class text front at tight (tokens.sign Eq) rest here meant next = refl
told_class text front at tight (tokens.sign Ne) rest here meant next = refl
told_class text front at tight (tokens.sign Lt) rest here meant next = refl
told_class text front at tight (tokens.sign Gt) rest here meant next = refl
told_class text front at tight (tokens.sign Le) rest here meant next = refl
told_class text front at tight (tokens.sign Ge) rest here meant next = refl
told_class text front at tight tokens.opening rest here meant next = refl
told_class text front at tight tokens.closing rest here meant next = refl
told_class text front at tight tokens.comma rest here meant next = refl

-- ---- all tokens

at_of : (t u : Token) (us : List Token) (text front : List ℕ) (at : ℕ) → IsWhole u → IsFollowed u us → text ≡ front ++ behind t (u ∷ us) → at ≡ length front
    → IsAt text front at (holds_next t || is_held u) u (behind u us)
unfolding behind
at_of t u us text front at whole followed is place = record {
  text_is = is ∙ ap (λ (x : List ℕ). front ++ x) (append_assoc (blank_unless (holds_next t || is_held u)) (spelled u) (behind u us));
  at_is = place;
  whole = whole.whole;
  longest_is = longest_here u us whole followed;
}

-- a function word holds the parenthesis behind it
opening_next : (w : List ℕ) (us : List Token) (text front : List ℕ) (at : ℕ) → begins_opening us ≡ true → IsLexical us → text ≡ front ++ behind (tokens.function w) us → at ≡ length front → words.is_opening (lexeme_at text true at) ≡ true
opening_next w [] text front at o h is place = absurd (false≢true o)
opening_next w (v ∷ vs) text front at o h is place =
    let here = at_of (tokens.function w) v vs text front at h.0 h.1 is place in
    let kind : kind_of v ≡ kinds.Opening = ap kind_of (opening_is v o) in
    let told_is = lexeme_is text front at true v (behind v vs) here in
    ap words.is_opening told_is ∙ ap words.kind_is_opening kind

next_is_opening : (u : Token) (us : List Token) (text front : List ℕ) (at : ℕ) → IsFollowed u us → IsLexical us → text ≡ front ++ behind u us → at ≡ length front → is_function u ≡ true → words.is_opening (lexeme_at text true at) ≡ true
next_is_opening (tokens.word w) us text front at f h is place k = absurd (false≢true k)
next_is_opening (tokens.function w) us text front at f h is place k = opening_next w us text front at f h is place
next_is_opening (tokens.name n) us text front at f h is place k = absurd (false≢true k)
next_is_opening (tokens.text t) us text front at f h is place k = absurd (false≢true k)
next_is_opening (tokens.number n) us text front at f h is place k = absurd (false≢true k)
next_is_opening (tokens.sign op) us text front at f h is place k = absurd (false≢true k)
next_is_opening tokens.opening us text front at f h is place k = absurd (false≢true k)
next_is_opening tokens.closing us text front at f h is place k = absurd (false≢true k)
next_is_opening tokens.comma us text front at f h is place k = absurd (false≢true k)

at_end : (text front : List ℕ) (at : ℕ) → text ≡ front ++ [] → at ≡ length front → (token_at text true at).class ≡ classes.End
unfolding token_at lexeme_at blank_len
at_end text front at is place =
    let whole : text ≡ front = is ∙ append-nil front in
    let none : at + 0 ≡ at = omega arith in
    let past : at + blank_len (drop at text) ≡ at = ap (λ (x : List ℕ). at + blank_len x) (drop_front front [] text at is place) ∙ none in
    let over : at ≡ length text = place ∙ ap length (sym whole) in
    ap (λ (n : ℕ). (token_of text true (lexeme_from text true n)).class) past ∙ rw (eq-eqb at (length text) over) refl

reads_behind : (t : Token) (us : List Token) (text front : List ℕ) (at : ℕ) → IsLexical us → text ≡ front ++ behind t us → at ≡ length front → AreRead text at us
unfolding AreRead token_at told
reads_behind t [] text front at h is place = at_end text front at (unfold behind in is) place
reads_behind t (u ∷ us) text front at h is place =
    let tight = holds_next t || is_held u in
    let here = at_of t u us text front at h.0 h.1 is place in
    let lexeme = lexeme_is text front at tight u (behind u us) here in
    let told_is : token_at text true at ≡ told text at tight u = ap (token_of text true) lexeme in
    let to = from_of at tight + length (spelled u) in
    let more : text ≡ (front ++ (blank_unless tight ++ spelled u)) ++ behind u us =
    here.text_is ∙ ap (λ (x : List ℕ). front ++ x) (sym (append_assoc (blank_unless tight) (spelled u) (behind u us))) ∙ sym (append_assoc front (blank_unless tight ++ spelled u) (behind u us)) in
    let on : to ≡ length (front ++ (blank_unless tight ++ spelled u)) =
    omega (arith, place, length-append front (blank_unless tight ++ spelled u), length-append (blank_unless tight) (spelled u)) in
    let goes : AreRead text to us = reads_behind u us text (front ++ (blank_unless tight ++ spelled u)) to h.2 more on in
    let class : (told text at tight u).class ≡ class_of u =
    told_class text front at tight u (behind u us) here h.0.meant (next_is_opening u us text (front ++ (blank_unless tight ++ spelled u)) to h.1 h.2 more on) in
    subst (λ (k : Told). (k.class ≡ class_of u) × (bytes_of text k.from k.to ≡ spelled u) × AreRead text k.to us) (sym told_is)
    (class, bytes_are text front at tight u (behind u us) here, goes)

text_behind : (ts : List Token) → text_of ts ≡ [] ++ behind tokens.opening ts
unfolding text_of behind
text_behind [] = refl
text_behind (t ∷ ts) = refl

pub text_read : (ts : List Token) → IsLexical ts → AreRead (text_of ts) 0 ts
text_read ts h = reads_behind tokens.opening ts (text_of ts) [] 0 h (text_behind ts) (omega arith)
