-- Tokens are texts, and the names at the spans of a head are tokens.
use Rattle.std.proofs.Common.{◌≡◌, ℕ, ◌<◌, ◌≤◌, true, List, [], ◌∷◌, length, map, take, drop, get_or, refl, sym, ap, ◌∙◌, subst, arith}
use Rattle.std.specs.Prelude.{IsUtf8, All}
use Rattle.std.proofs.lemmas.Bool.Decides.{nat_tests}
use Rattle.std.proofs.lemmas.List.{length-map, length-take}
use Rattle.std.proofs.lemmas.Str.{IsUtf8-from_ascii}
use Rattle.std.proofs.lemmas.Str.Ascii.{IsAscii-from_all}
use Rattle.std.proofs.lemmas.List.Elements.{All-weaker, All-head, All-tail, All-nil, All-cons}
use Rattle.httparse.specs.Grammar.{is_token_byte, IsToken, Field, IsField}
use Rattle.httparse.specs.Spans.{span_bytes, IsHeaderWithin, header_bytes, name_and_value, AreFieldsAt}
use Rattle.httparse.specs.declared.spans.HeaderSpan.{HeaderSpan}
use Rattle.sc_http.specs.declared.request.Header.{Header}
use Rattle.sc_http.specs.declared.head.Head.{Head}
use Rattle.sc_http.specs.Headers.{header_of}
use Rattle.sc_http.specs.Heads.{IsNamedAt, header_at}

token_is_ascii : (b : ℕ) → is_token_byte b ≡ true → b < 128
unfolding is_token_byte
token_is_ascii b token = grind (arith, nat_tests)

pub token_text : (bytes : List ℕ) → IsToken bytes → IsUtf8 bytes
token_text bytes t = IsUtf8-from_ascii _ (IsAscii-from_all _ (All-weaker (λ b. is_token_byte b ≡ true) (λ b. b < 128) token_is_ascii _ t.1))

name_at : (buf : List ℕ) (s : HeaderSpan) (x : Field) → header_bytes buf s ≡ name_and_value x → IsField x → IsUtf8 (span_bytes buf s.name)
name_at buf s x e f = subst IsUtf8 (sym (ap (λ p. p.0) e)) (token_text x.name f.name)

pub names_at : (buf : List ℕ) (spans : List HeaderSpan) (fields : List Field) → map (header_bytes buf) spans ≡ map name_and_value fields → All (IsHeaderWithin (length buf)) spans → All IsField fields → All (IsNamedAt buf) spans
names_at buf [] fields e w f = All-nil _
names_at buf (s ∷ spans) [] e w f = absurd (omega (arith, ap length e))
names_at buf (s ∷ spans) (x ∷ fields) e w f =
    let first : IsNamedAt buf s = (All-head (IsHeaderWithin (length buf)) s spans w, name_at buf s x (ap (λ l. get_or l 0 (header_bytes buf s)) e) (All-head IsField x fields f)) in
    All-cons (IsNamedAt buf) s spans first
    (names_at buf spans fields (ap (drop 1) e) (All-tail (IsHeaderWithin (length buf)) s spans w) (All-tail IsField x fields f))

pub wider : (n m : ℕ) → n ≤ m → (spans : List HeaderSpan) → All (IsHeaderWithin n) spans → All (IsHeaderWithin m) spans
wider n m le spans w = All-weaker (IsHeaderWithin n) (IsHeaderWithin m) (λ s i. ((i.0.0, omega (arith, i.0.1)), (i.1.0, omega (arith, i.1.1)))) spans w

pub fields_fit : (buf : List ℕ) (spans : List HeaderSpan) (count : ℕ) (fields : List Field) → AreFieldsAt buf spans count fields → length spans ≤ 64 → length fields ≤ 64
fields_fit buf spans count fields e few = omega (arith, ap length e, length-map (take count spans) (header_bytes buf), length-map fields name_and_value, length-take count spans)

header_of_pair : List ℕ × List ℕ → Header
header_of_pair p = record { name = p.0; value = p.1 }

pair_header : (buf : List ℕ) (s : HeaderSpan) → header_of_pair (header_bytes buf s) ≡ header_at buf s
unfolding header_of_pair
pair_header buf s = refl

pair_field : (x : Field) → header_of_pair (name_and_value x) ≡ header_of x
unfolding header_of_pair
pair_field x = refl

pub headers_same : (buf : List ℕ) (spans : List HeaderSpan) (fields : List Field) → map (header_bytes buf) spans ≡ map name_and_value fields → map (header_at buf) spans ≡ map header_of fields
headers_same buf [] [] e = refl
headers_same buf [] (x ∷ fields) e = absurd (omega (arith, ap length e))
headers_same buf (s ∷ spans) [] e = absurd (omega (arith, ap length e))
headers_same buf (s ∷ spans) (x ∷ fields) e =
    let first : header_bytes buf s ≡ name_and_value x = ap (λ l. get_or l 0 (header_bytes buf s)) e in
    let header : header_at buf s ≡ header_of x = sym (pair_header buf s) ∙ ap header_of_pair first ∙ pair_field x in
    ap (λ h. h ∷ map (header_at buf) spans) header ∙ ap (λ t. header_of x ∷ t) (headers_same buf spans fields (ap (drop 1) e))

-- two heads whose parts are the same
pub same_head : (a b : Head) → a.method ≡ b.method → a.target ≡ b.target → a.headers ≡ b.headers → a.minor ≡ b.minor → a.len ≡ b.len → a ≡ b
same_head a b m t h v l i = record { method = m i; target = t i; headers = h i; minor = v i; len = l i }
