-- A head ends in a line feed behind its method, so bytes without a new such line feed make no new head.
use Rattle.std.proofs.Common.{◌≡◌, ℕ, zero, suc, ◌+◌, ◌<◌, ◌≤◌, ◌⊎◌, Bool, true, false, eqb, ltb, cond, List, [], ◌∷◌, ◌++◌, length, get_or, drop, refl, sym, ap, ◌∙◌, arith, append_assoc, append-nil, length-append, inl, inr, ⊎_elim}
use Rattle.std.specs.List.{flat_map}
use Rattle.std.specs.Prelude.{All}
use Rattle.std.proofs.lemmas.Bool.Decides.{nat_tests}
use Rattle.std.proofs.lemmas.List.Elements.{All-head, All-tail}
use Rattle.httparse.specs.Grammar.{LineEnd, crlf, lf, print_end, print_blank, print_version, print_field, print_section, print_request, AllPass, is_token_byte, is_uri_byte, is_value_byte, IsToken, Field, IsField, RequestHead, IsRequestHead}
use Rattle.httparse.proofs.GrammarLemmas.{print_request-append}
use Rattle.sc_http.specs.Requests.{HasNoHead}
use Rattle.sc_http.specs.Room.{feeds_behind, begun_after, IsOver, IsShort}

feeds_step : (xs ys : List ℕ) → ((b : Bool) → feeds_behind b (xs ++ ys) ≡ feeds_behind b xs + feeds_behind (begun_after b xs) ys) → (t u s : Bool)
    → cond t (cond s (1 + feeds_behind true (xs ++ ys)) (feeds_behind false (xs ++ ys))) (cond u (feeds_behind s (xs ++ ys)) (feeds_behind true (xs ++ ys)))
    ≡ cond t (cond s (1 + feeds_behind true xs) (feeds_behind false xs)) (cond u (feeds_behind s xs) (feeds_behind true xs))
    + feeds_behind (cond t (begun_after s xs) (cond u (begun_after s xs) (begun_after true xs))) ys
feeds_step xs ys h true u true = let e = h true in omega (arith, e)
feeds_step xs ys h true u false = h false
feeds_step xs ys h false true s = h s
feeds_step xs ys h false false s = h true

pub feeds_append : (begun : Bool) (xs ys : List ℕ) → feeds_behind begun (xs ++ ys) ≡ feeds_behind begun xs + feeds_behind (begun_after begun xs) ys
feeds_append begun [] ys = omega arith
feeds_append begun (x ∷ xs) ys = feeds_step xs ys (λ b. feeds_append b xs ys) (eqb x 10) (eqb x 13) begun

pub begun_append : (begun : Bool) (xs ys : List ℕ) → begun_after begun (xs ++ ys) ≡ begun_after (begun_after begun xs) ys
begun_append begun [] ys = refl
begun_append begun (x ∷ xs) ys = begun_step xs ys (λ b. begun_append b xs ys) (eqb x 10) (eqb x 13) begun
  where
    begun_step : (xs ys : List ℕ) → ((b : Bool) → begun_after b (xs ++ ys) ≡ begun_after (begun_after b xs) ys) → (t u s : Bool)
        → cond t (begun_after s (xs ++ ys)) (cond u (begun_after s (xs ++ ys)) (begun_after true (xs ++ ys)))
        ≡ begun_after (cond t (begun_after s xs) (cond u (begun_after s xs) (begun_after true xs))) ys
    begun_step xs ys h true u s = h s
    begun_step xs ys h false true s = h s
    begun_step xs ys h false false s = h true

pub begun_stays : (xs : List ℕ) → begun_after true xs ≡ true
begun_stays [] = refl
begun_stays (x ∷ xs) = stays (eqb x 10) (eqb x 13) (begun_stays xs)
  where
    stays : {b : Bool} (t u : Bool) → b ≡ true → cond t b (cond u b b) ≡ true
    stays true u e = e
    stays false true e = e
    stays false false e = e

last_feed : (e : LineEnd) → (x : List ℕ) × (print_end e ≡ x ++ 10 ∷ [])
last_feed crlf = (13 ∷ [], refl)
last_feed lf = ([], refl)

regroup : (a b c d e f g x y : List ℕ) → g ≡ x ++ y → a ++ (b ++ 32 ∷ (c ++ 32 ∷ (d ++ (e ++ ((f ++ g) ++ []))))) ≡ (a ++ (b ++ 32 ∷ (c ++ 32 ∷ (d ++ (e ++ (f ++ x)))))) ++ y
regroup a b c d e f g x y eq =
    ap (λ t. a ++ (b ++ 32 ∷ (c ++ 32 ∷ (d ++ (e ++ ((f ++ t) ++ [])))))) eq ∙ simp (append_assoc, append-nil)

token_begins : (b : ℕ) → is_token_byte b ≡ true → (eqb b 10 ≡ false) × (eqb b 13 ≡ false)
unfolding is_token_byte
token_begins b token = (grind (arith, nat_tests), grind (arith, nat_tests))

begun_token : (begun : Bool) (bytes more : List ℕ) → IsToken bytes → begun_after begun (bytes ++ more) ≡ true
begun_token begun [] more t = absurd (omega (arith, t.0))
begun_token begun (b ∷ bytes) more t =
    let k = token_begins b (All-head (λ v. is_token_byte v ≡ true) b bytes t.1) in
    ap (λ v. cond v (begun_after begun (bytes ++ more)) (cond (eqb b 13) (begun_after begun (bytes ++ more)) (begun_after true (bytes ++ more)))) k.0
    ∙ ap (λ v. cond v (begun_after begun (bytes ++ more)) (begun_after true (bytes ++ more))) k.1
    ∙ begun_stays (bytes ++ more)

pub ends_in_feed : (h : RequestHead) → IsRequestHead h → (p : List ℕ) × (print_request h ≡ p ++ 10 ∷ []) × (begun_after false p ≡ true)
ends_in_feed h i =
    let x = last_feed h.last in
    let tail = 32 ∷ (h.target ++ 32 ∷ (print_version h.minor ++ (print_end h.line_end ++ (flat_map print_field h.fields ++ x.0)))) in (
      print_blank h.blank ++ (h.method ++ tail),
      sym (append-nil (print_request h)) ∙ print_request-append h [] ∙ regroup (print_blank h.blank) h.method h.target (print_version h.minor) (print_end h.line_end) (flat_map print_field h.fields) (print_end h.last) x.0 (10 ∷ []) x.1,
      begun_append false (print_blank h.blank) (h.method ++ tail) ∙ begun_token (begun_after false (print_blank h.blank)) h.method tail i.method,
    )

prefix_of : (a b c d : List ℕ) → a ++ b ≡ c ++ d → length a ≤ length c → c ≡ a ++ drop (length a) c
prefix_of [] b c d e le = refl
prefix_of (x ∷ a) b [] d e le = absurd (omega (arith, le))
prefix_of (x ∷ a) b (y ∷ c) d e le =
    let same : y ≡ x = sym (ap (λ l. get_or l 0 0) e) in
    ap (λ t. t ∷ c) same ∙ ap (λ t. x ∷ t) (prefix_of a b c d (ap (drop 1) e) (omega (arith, le)))

le_or_lt : (a b : ℕ) → (a ≤ b) ⊎ (b < a)
le_or_lt a b = by (ltb b a) refl
  where
    by : (t : Bool) → ltb b a ≡ t → (a ≤ b) ⊎ (b < a)
    by true e = inr (grind (arith, nat_tests))
    by false e = inl (grind (arith, nat_tests))

-- bytes with no new line feed behind the first byte of a line make no new head
pub no_new_head : (old new : List ℕ) → HasNoHead old → feeds_behind false (old ++ new) ≡ feeds_behind false old → HasNoHead (old ++ new)
no_new_head old new none same h rest x =
    ⊎_elim
    (λ le.
    let e = prefix_of (print_request h) rest old new (sym x.reads.1) le in
    none h (drop (length (print_request h)) old) (record { reads = (x.reads.0, e); short = x.short; few = x.few }))
    (λ lt.
    let f = ends_in_feed h x.reads.0 in
    let whole : old ++ new ≡ f.0 ++ (10 ∷ rest) = x.reads.1 ∙ ap (λ t. t ++ rest) f.1 ∙ append_assoc f.0 (10 ∷ []) rest in
    let e = prefix_of old new f.0 (10 ∷ rest) whole (omega (arith, lt, ap length f.1, length-append f.0 (10 ∷ []))) in
    let counted = ap (feeds_behind false) whole ∙ feeds_append false f.0 (10 ∷ rest) ∙ ap (λ t. feeds_behind false f.0 + feeds_behind t (10 ∷ rest)) f.2 in
    let more = ap (feeds_behind false) e ∙ feeds_append false old (drop (length old) f.0) in
    absurd (omega (arith, same, counted, more)))
    (le_or_lt (length (print_request h)) (length old))

feeds_few : (begun : Bool) (xs : List ℕ) → feeds_behind begun xs ≤ length xs
feeds_few begun [] = omega arith
feeds_few begun (x ∷ xs) = few (eqb x 10) (eqb x 13) begun (feeds_few true xs) (feeds_few false xs)
  where
    few : (t u s : Bool) → feeds_behind true xs ≤ length xs → feeds_behind false xs ≤ length xs
        → cond t (cond s (1 + feeds_behind true xs) (feeds_behind false xs)) (cond u (feeds_behind s xs) (feeds_behind true xs)) ≤ length (x ∷ xs)
    few true u true a b = omega (arith, a)
    few true u false a b = omega (arith, b)
    few false true true a b = omega (arith, a)
    few false true false a b = omega (arith, b)
    few false false s a b = omega (arith, a)

pub feeds_fit : (xs : List ℕ) → feeds_behind false xs ≤ length xs
feeds_fit xs = feeds_few false xs

-- ---- a head with so many header lines has at most two line feeds more

feeds_true : (xs ys : List ℕ) → feeds_behind true (xs ++ ys) ≡ feeds_behind true xs + feeds_behind true ys
feeds_true xs ys = feeds_append true xs ys ∙ ap (λ t. feeds_behind true xs + feeds_behind t ys) (begun_stays xs)

feeds_most : (xs : List ℕ) → feeds_behind false xs ≤ feeds_behind true xs
feeds_most [] = omega arith
feeds_most (x ∷ xs) = most (eqb x 10) (eqb x 13) (feeds_most xs)
  where
    most : {m n : ℕ} (t u : Bool) → m ≤ n → cond t m (cond u m n) ≤ cond t (1 + n) (cond u n n)
    most true u e = omega (arith, e)
    most false true e = e
    most false false e = omega arith

no_feeds : (test : ℕ → Bool) → ((b : ℕ) → test b ≡ true → eqb b 10 ≡ false) → (xs : List ℕ) → AllPass test xs → feeds_behind true xs ≡ 0
no_feeds test other [] a = refl
no_feeds test other (b ∷ xs) a =
    ap (λ v. cond v (1 + feeds_behind true xs) (cond (eqb b 13) (feeds_behind true xs) (feeds_behind true xs))) (other b (All-head (λ v. test v ≡ true) b xs a))
    ∙ either (eqb b 13) (no_feeds test other xs (All-tail (λ v. test v ≡ true) b xs a))
  where
    either : {m : ℕ} (t : Bool) → m ≡ 0 → cond t m m ≡ 0
    either true e = e
    either false e = e

token_no_feed : (b : ℕ) → is_token_byte b ≡ true → eqb b 10 ≡ false
token_no_feed b token = (token_begins b token).0

uri_no_feed : (b : ℕ) → is_uri_byte b ≡ true → eqb b 10 ≡ false
uri_no_feed b e = grind (arith, nat_tests)

value_no_feed : (b : ℕ) → is_value_byte b ≡ true → eqb b 10 ≡ false
value_no_feed b e = grind (arith, nat_tests)

feeds_end : (e : LineEnd) → feeds_behind true (print_end e) ≡ 1
feeds_end crlf = refl
feeds_end lf = refl

feeds_version : (minor : ℕ) → minor ≤ 1 → feeds_behind true (print_version minor) ≡ 0
feeds_version zero le = refl
feeds_version (suc zero) le = refl
feeds_version (suc (suc n)) le = absurd (omega (arith, le))

feeds_blank : (ends : List LineEnd) (xs : List ℕ) → feeds_behind false (print_blank ends ++ xs) ≡ feeds_behind false xs
feeds_blank [] xs = refl
feeds_blank (crlf ∷ ends) xs = feeds_blank ends xs
feeds_blank (lf ∷ ends) xs = feeds_blank ends xs

feeds_field : (f : Field) → IsField f → feeds_behind true (print_field f) ≡ 1
feeds_field f i =
    omega (
      arith,
      feeds_true (f.name ++ (58 ∷ f.raw)) (print_end f.end),
      feeds_true f.name (58 ∷ f.raw),
      no_feeds is_token_byte token_no_feed f.name i.name.1,
      no_feeds is_value_byte value_no_feed f.raw i.raw,
      feeds_end f.end,
    )

feeds_fields : (fields : List Field) → All IsField fields → feeds_behind true (flat_map print_field fields) ≡ length fields
feeds_fields [] a = refl
feeds_fields (f ∷ fields) a =
    let first = feeds_field f (All-head IsField f fields a) in
    let others = feeds_fields fields (All-tail IsField f fields a) in
    omega (arith, feeds_true (print_field f) (flat_map print_field fields), first, others)

-- the line feeds of a head
pub feeds_of_head : (h : RequestHead) → IsRequestHead h → feeds_behind false (print_request h) ≤ length h.fields + 2
feeds_of_head h i =
    let section = print_section h.fields h.last ++ [] in
    let lines = print_end h.line_end ++ section in
    let version = print_version h.minor ++ lines in
    let target = h.target ++ 32 ∷ version in
    let method = h.method ++ 32 ∷ target in
    let whole : print_request h ≡ print_blank h.blank ++ method = sym (append-nil (print_request h)) ∙ print_request-append h [] in
    let counted = ap (feeds_behind false) whole ∙ feeds_blank h.blank method in
    let fields = feeds_fields h.fields i.fields in
    omega (
      arith,
      counted,
      feeds_most method,
      feeds_true h.method (32 ∷ target),
      feeds_true h.target (32 ∷ version),
      feeds_true (print_version h.minor) lines,
      feeds_true (print_end h.line_end) section,
      feeds_true (print_section h.fields h.last) [],
      feeds_true (flat_map print_field h.fields) (print_end h.last),
      fields,
      no_feeds is_token_byte token_no_feed h.method i.method.1,
      no_feeds is_uri_byte uri_no_feed h.target i.target.1,
      feeds_version h.minor i.minor,
      feeds_end h.line_end,
      feeds_end h.last,
    )

-- ---- bytes that are over, and bytes that are short

pub short_front : (xs ys : List ℕ) → IsShort (xs ++ ys) → IsShort xs
short_front xs ys s = (omega (arith, s.0, length-append xs ys), omega (arith, s.1, feeds_append false xs ys))

pub over_more : (xs ys : List ℕ) → IsOver xs → IsOver (xs ++ ys)
over_more xs ys (inl a) = inl (omega (arith, a, length-append xs ys))
over_more xs ys (inr a) = inr (omega (arith, a, feeds_append false xs ys))

pub short_not_over : (xs : List ℕ) → IsShort xs → IsOver xs → ⊥
short_not_over xs s (inl a) = omega (arith, s.0, a)
short_not_over xs s (inr a) = omega (arith, s.1, a)

pub short_or_over : (xs : List ℕ) → IsShort xs ⊎ IsOver xs
short_or_over xs =
    ⊎_elim (λ a. inr (inl a))
    (λ a. ⊎_elim (λ b. inr (inr b)) (λ b. inl (a, b)) (le_or_lt 66 (feeds_behind false xs)))
    (le_or_lt 65536 (length xs))

-- once the bytes are over, no head comes any more
pub no_head_beyond : (front more : List ℕ) → IsOver front → HasNoHead front → HasNoHead (front ++ more)
no_head_beyond front more over none h rest x =
    ⊎_elim
    (λ le.
    let e = prefix_of (print_request h) rest front more (sym x.reads.1) le in
    none h (drop (length (print_request h)) front) (record { reads = (x.reads.0, e); short = x.short; few = x.few }))
    (λ lt. beyond lt over)
    (le_or_lt (length (print_request h)) (length front))
  where
    beyond : length front < length (print_request h) → IsOver front → ⊥
    beyond lt (inl long) = omega (arith, lt, long, x.short)
    beyond lt (inr many) =
        let f = ends_in_feed h x.reads.0 in
        let whole : front ++ more ≡ f.0 ++ (10 ∷ rest) = x.reads.1 ∙ ap (λ t. t ++ rest) f.1 ∙ append_assoc f.0 (10 ∷ []) rest in
        let e = prefix_of front more f.0 (10 ∷ rest) whole (omega (arith, lt, ap length f.1, length-append f.0 (10 ∷ []))) in
        let counted = ap (feeds_behind false) f.1 ∙ feeds_append false f.0 (10 ∷ []) ∙ ap (λ t. feeds_behind false f.0 + feeds_behind t (10 ∷ [])) f.2 in
        let before = ap (feeds_behind false) e ∙ feeds_append false front (drop (length front) f.0) in
        omega (arith, many, counted, before, feeds_of_head h x.reads.0, x.few)
