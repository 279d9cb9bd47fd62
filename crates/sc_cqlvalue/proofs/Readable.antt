-- Each token of a text in UTF-8 is readable.
use Rattle.std.proofs.Common.{◌≡◌, ℕ, zero, suc, ◌+◌, ◌-◌, ◌<◌, ◌≤◌, List, [], ◌∷◌, take, drop, length, Bool, true, false, cond, Option, Some, None, is_some, IsUtf8, refl, sym, ap, subst, ◌∙◌, arith}
use Rattle.std.specs.Prelude.{IfSome}
use Rattle.std.proofs.lemmas.List.{length-take-le}
use Rattle.std.proofs.lemmas.Str.{is_utf8-from_IsUtf8}
use Rattle.std.proofs.Math.Seq.{drop-drop}
use Rattle.sc_base.specs.Text as texts
use Rattle.sc_grammar.specs.declared.lexeme.Kind.{Kind}
use Rattle.sc_grammar.specs.declared.lexeme.Kind.TheVariants as kinds
use Rattle.sc_grammar.specs.declared.lexeme.Lexeme.{Lexeme}
use Rattle.sc_grammar.specs.declared.token.Class.{Class}
use Rattle.sc_grammar.specs.declared.token.Class.TheVariants as classes
use Rattle.sc_grammar.specs.Lexing.{lexeme_at}
use Rattle.sc_grammar.specs.Tokens.{IsLongest, IsKind}
use Rattle.sc_grammar.specs.Words.{keyword_of, function_of, geometry_of, word_of, or_else, class_by, class_at, token_at, IsFormedClass}
use Rattle.sc_grammar.proofs.Next.{next_is}
use Rattle.sc_grammar.proofs.Longest.{nothing_is_no_token}
use Rattle.sc_cqlvalue.specs.Literals.{within, unescaped, text_bytes, text_of, name_bytes, name_of, if_filled}
use Rattle.sc_cqlvalue.specs.Readable.{IsReadable, ReadsOn}
use Rattle.sc_cqlvalue.proofs.Characters.{unescaped_utf8, unescaped_some}
use Rattle.sc_cqlvalue.proofs.Tokens.{cut_blanks, cut_word, cut_ascii, cut_quoted, within_is, inside_utf8, AllAscii, number_ascii, quoted}

-- ---- texts and names

is_text : (bytes : List ℕ) → IsUtf8 bytes → texts.text_of bytes ≡ Some bytes
is_text bytes u = ap (λ (b : Bool). cond b (Some bytes) None) (is_utf8-from_IsUtf8 bytes u)

some_filled : (bytes : List ℕ) → 1 ≤ length bytes → is_some (if_filled (Some bytes)) ≡ true
some_filled [] some = absurd (omega arith)
some_filled (b ∷ bytes) some = refl

name_is : (bytes : List ℕ) → IsUtf8 bytes → 1 ≤ length bytes → is_some (if_filled (texts.text_of bytes)) ≡ true
name_is bytes u some = ap (λ (o : Option (List ℕ)). is_some (if_filled o)) (is_text bytes u) ∙ some_filled bytes some

unescaped_inside : (quote mark : ℕ) → quote < 128 → mark < 128 → (inside : List ℕ) → IsUtf8 (quoted quote inside) → IsUtf8 (unescaped quote mark (within (quoted quote inside)))
unescaped_inside quote mark small low inside u =
    subst (λ (xs : List ℕ). IsUtf8 (unescaped quote mark xs)) (sym (within_is quote inside)) (unescaped_utf8 quote mark small low inside (inside_utf8 quote inside small u))

text_read : (bytes inside : List ℕ) → bytes ≡ quoted 39 inside → IsUtf8 bytes → is_some (text_of bytes) ≡ true
text_read bytes inside is u =
    let plain : IsUtf8 (text_bytes bytes) = subst (λ (xs : List ℕ). IsUtf8 (text_bytes xs)) (sym is) (unescaped_inside 39 92 (omega arith) (omega arith) inside (subst IsUtf8 is u)) in
    ap is_some (is_text (text_bytes bytes) plain)

filled_length : (inside : List ℕ) → (inside ≡ [] → ⊥) → 1 ≤ length inside
filled_length [] some = absurd (some refl)
filled_length (b ∷ inside) some = omega arith

name_read : (bytes inside : List ℕ) → bytes ≡ quoted 34 inside → (inside ≡ [] → ⊥) → IsUtf8 bytes → is_some (name_of classes.QuotedName bytes) ≡ true
name_read bytes inside is some u =
    let plain : IsUtf8 (name_bytes classes.QuotedName bytes) = subst (λ (xs : List ℕ). IsUtf8 (name_bytes classes.QuotedName xs)) (sym is) (unescaped_inside 34 34 (omega arith) (omega arith) inside (subst IsUtf8 is u)) in
    let long : 1 ≤ length (unescaped 34 34 inside) = unescaped_some 34 34 (omega arith) (omega arith) inside (filled_length inside some) in
    let same : name_bytes classes.QuotedName bytes ≡ unescaped 34 34 inside = ap (name_bytes classes.QuotedName) is ∙ ap (unescaped 34 34) (within_is 34 inside) in
    name_is (name_bytes classes.QuotedName bytes) plain (subst (λ (xs : List ℕ). 1 ≤ length xs) (sym same) long)

-- ---- the class of a word is none of a literal in quotes and none of a number

abbrev IsWordClass : Class → Type 0
IsWordClass classes.QuotedName = ⊥
IsWordClass classes.Text = ⊥
IsWordClass classes.Number = ⊥
IsWordClass _ = Unit {0}

either : {A : Type 0} (P : A → Type 0) (b : Bool) (x y : Option A) → IfSome x P → IfSome y P → IfSome (cond b x y) P
either P true x y h k = h
either P false x y h k = k

when_opening : (b : Bool) (c : Class) → IsWordClass c → IsWordClass (cond b c classes.Name)
when_opening true c h = h
when_opening false c h = tt

-- what a word is by the token that comes next
abbrev at_next : {A : Type 0} → (A → Lexeme → Class) → Lexeme → A → Class
at_next class next word = class word next

abbrev Fine : {A : Type 0} → (A → Class) → A → Type 0
Fine class word = IsWordClass (class word)

keyword_class : (text : List ℕ) (next : Lexeme) (word : List ℕ) → IfSome (keyword_of word) (Fine (at_next (class_by text) next))
unfolding keyword_of
keyword_class text next word = search (either (Fine (at_next (class_by text) next))) depth 14

function_class : (text : List ℕ) (next : Lexeme) (word : List ℕ) → IfSome (function_of word) (Fine (at_next (class_by text) next))
unfolding function_of
function_class text next word = search (either (Fine (at_next (class_by text) next)), when_opening) depth 12

geometry_class : (text : List ℕ) (next : Lexeme) (word : List ℕ) → IfSome (geometry_of word) (Fine (at_next (class_by text) next))
unfolding geometry_of
geometry_class text next word = search (either (Fine (at_next (class_by text) next)), when_opening) depth 12

or_else_fine : (text : List ℕ) (next : Lexeme) (first : Option _) (other : _) → IfSome first (Fine (at_next (class_by text) next)) → Fine (at_next (class_by text) next) other → Fine (at_next (class_by text) next) (or_else first other)
or_else_fine text next None other h k = k
or_else_fine text next (Some word) other h k = h

choice : {A : Type 0} (P : A → Type 0) (b : Bool) (x y : A) → P x → P y → P (cond b x y)
choice P true x y h k = h
choice P false x y h k = k

word_class : (text : List ℕ) (next : Lexeme) (word : List ℕ) → Fine (at_next (class_by text) next) (word_of word)
unfolding word_of
word_class text next word = search (or_else_fine text next, keyword_class text next word, function_class text next word, geometry_class text next word, choice (Fine (at_next (class_by text) next))) depth 10

-- ---- tokens by their kind

of_word : (class : Class) (bytes : List ℕ) → IsWordClass class → IsUtf8 bytes → 1 ≤ length bytes → IsReadable class bytes
of_word classes.QuotedName bytes w u some = absurd w
of_word classes.Text bytes w u some = absurd w
of_word classes.Number bytes w u some = absurd w
of_word classes.Name bytes w u some = name_is bytes u some
of_word classes.Z bytes w u some = name_is bytes u some
of_word _ bytes w u some = tt

-- the token is the first of these bytes
record Stands (class : Class) (bs : List ℕ) (n : ℕ) : Type 0 where
  pub readable : IsReadable class (take n bs)
  pub rest : IsUtf8 (drop n bs)

some_byte : (bs : List ℕ) (k : Kind) (n : ℕ) → IsLongest bs (Some (k, n)) → 1 ≤ n
some_byte bs k zero h = absurd (nothing_is_no_token k h.1)
some_byte bs k (suc n) h = omega arith

-- signs are one or two bytes
sign_stands : (class : Class) (bs : List ℕ) (k : Kind) (n : ℕ) (bytes : List ℕ) → IsUtf8 bs → IsLongest bs (Some (k, n)) → take n bs ≡ bytes → AllAscii bytes → IsReadable class (take n bs) → Stands class bs n
sign_stands class bs k n bytes u h is ascii readable =
    record { readable = readable; rest = (cut_ascii bs n u (some_byte bs k n h) h.0 (subst AllAscii (sym is) ascii)).rest }

word_stands : (class : Class) (bs : List ℕ) (n : ℕ) → IsUtf8 bs → IsWordClass class → IsLongest bs (Some (kinds.Word, n)) → Stands class bs n
word_stands class bs n u w h =
    let cut = cut_word bs n u h.0 h.1 h.2 in
    record { readable = of_word class (take n bs) w cut.front (omega (arith, some_byte bs kinds.Word n h, length-take-le n bs h.0)); rest = cut.rest }

name_stands : (bs : List ℕ) (n : ℕ) → IsUtf8 bs → IsLongest bs (Some (kinds.QuotedName, n)) → Stands classes.QuotedName bs n
name_stands bs n u h =
    let q = h.1 in
    let cut = cut_quoted bs n 34 q.inside u h.0 (omega arith) q.quoted in
    record { readable = name_read (take n bs) q.inside q.quoted q.some cut.front; rest = cut.rest }

text_stands : (bs : List ℕ) (n : ℕ) → IsUtf8 bs → IsLongest bs (Some (kinds.Text, n)) → Stands classes.Text bs n
text_stands bs n u h =
    let q = h.1 in
    let cut = cut_quoted bs n 39 q.inside u h.0 (omega arith) q.quoted in
    record { readable = text_read (take n bs) q.inside q.quoted cut.front; rest = cut.rest }

number_stands : (bs : List ℕ) (n : ℕ) → IsUtf8 bs → IsLongest bs (Some (kinds.Number, n)) → Stands classes.Number bs n
number_stands bs n u h =
    let cut = cut_ascii bs n u (some_byte bs kinds.Number n h) h.0 (number_ascii (take n bs) h.1) in
    record { readable = h.1; rest = cut.rest }

record At (text : List ℕ) (whole : Bool) (k : Kind) (from to : ℕ) : Type 0 where
  pub readable : IsReadable (class_at text whole k from to) (take (to - from) (drop from text))
  pub rest : IsUtf8 (drop to text)

at : (text : List ℕ) (whole : Bool) (k : Kind) (from to n : ℕ) → to ≡ from + n → Stands (class_at text whole k from to) (drop from text) n → At text whole k from to
at text whole k from to n e s =
    let long : n ≡ to - from = omega (arith, e) in
    record {
      readable = subst (λ (m : ℕ). IsReadable (class_at text whole k from to) (take m (drop from text))) long s.readable;
      rest = subst IsUtf8 (drop-drop n from text ∙ ap (λ (m : ℕ). drop m text) (sym e)) s.rest;
    }

stands : (text : List ℕ) (whole : Bool) (k : Kind) (from to : ℕ) → IsUtf8 (drop from text) → IsFormedClass (class_at text whole k from to) → IsKind text whole k from to → At text whole k from to
stands text whole kinds.Bad from to u f h = absurd f
stands text whole kinds.End from to u f h = absurd f
stands text whole kinds.Word from to u f h =
    at text whole kinds.Word from to h.0 h.1 (word_stands (class_at text whole kinds.Word from to) (drop from text) h.0 u (word_class text (lexeme_at text whole to) (take (to - from) (drop from text))) h.2)
stands text whole kinds.QuotedName from to u f h = at text whole kinds.QuotedName from to h.0 h.1 (name_stands (drop from text) h.0 u h.2)
stands text whole kinds.Text from to u f h = at text whole kinds.Text from to h.0 h.1 (text_stands (drop from text) h.0 u h.2)
stands text whole kinds.Number from to u f h = at text whole kinds.Number from to h.0 h.1 (number_stands (drop from text) h.0 u h.2)
stands text whole kinds.Equal from to u f h = at text whole kinds.Equal from to h.0 h.1 (sign_stands classes.Equal (drop from text) kinds.Equal h.0 (61 ∷ []) u h.2 h.2.1 (omega arith, tt) tt)
stands text whole kinds.NotEqual from to u f h = at text whole kinds.NotEqual from to h.0 h.1 (sign_stands classes.NotEqual (drop from text) kinds.NotEqual h.0 (60 ∷ 62 ∷ []) u h.2 h.2.1 (omega arith, (omega arith, tt)) tt)
stands text whole kinds.Less from to u f h = at text whole kinds.Less from to h.0 h.1 (sign_stands classes.Less (drop from text) kinds.Less h.0 (60 ∷ []) u h.2 h.2.1 (omega arith, tt) tt)
stands text whole kinds.Greater from to u f h = at text whole kinds.Greater from to h.0 h.1 (sign_stands classes.Greater (drop from text) kinds.Greater h.0 (62 ∷ []) u h.2 h.2.1 (omega arith, tt) tt)
stands text whole kinds.AtMost from to u f h = at text whole kinds.AtMost from to h.0 h.1 (sign_stands classes.AtMost (drop from text) kinds.AtMost h.0 (60 ∷ 61 ∷ []) u h.2 h.2.1 (omega arith, (omega arith, tt)) tt)
stands text whole kinds.AtLeast from to u f h = at text whole kinds.AtLeast from to h.0 h.1 (sign_stands classes.AtLeast (drop from text) kinds.AtLeast h.0 (62 ∷ 61 ∷ []) u h.2 h.2.1 (omega arith, (omega arith, tt)) tt)
stands text whole kinds.Opening from to u f h = at text whole kinds.Opening from to h.0 h.1 (sign_stands classes.Opening (drop from text) kinds.Opening h.0 (40 ∷ []) u h.2 h.2.1 (omega arith, tt) tt)
stands text whole kinds.Closing from to u f h = at text whole kinds.Closing from to h.0 h.1 (sign_stands classes.Closing (drop from text) kinds.Closing h.0 (41 ∷ []) u h.2 h.2.1 (omega arith, tt) tt)
stands text whole kinds.Comma from to u f h = at text whole kinds.Comma from to h.0 h.1 (sign_stands classes.Comma (drop from text) kinds.Comma h.0 (44 ∷ []) u h.2 h.2.1 (omega arith, tt) tt)

pub token_reads : (text : List ℕ) (whole : Bool) (place : ℕ) → place ≤ length text → IsUtf8 (drop place text) → IsFormedClass (token_at text whole place).class → ReadsOn text (token_at text whole place)
unfolding token_at
token_reads text whole place le u f =
    let next = next_is text whole place le in
    let behind : IsUtf8 (drop (lexeme_at text whole place).from text) =
    subst IsUtf8 (drop-drop next.blanks place text ∙ ap (λ (m : ℕ). drop m text) (sym next.from_is)) (cut_blanks (drop place text) next.blanks u next.are_blank) in
    let l = lexeme_at text whole place in
    let here = stands text whole l.kind l.from l.to behind f next.is_kind in
    record { readable = here.readable; rest = here.rest }
