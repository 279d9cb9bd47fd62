-- A body that is held in part and comes in part.
use Rattle.std.proofs.Common.{◌≡◌, ◌≢◌, ℕ, suc, ◌+◌, ◌-◌, ◌<◌, ◌≤◌, Bool, List, [], ◌∷◌, ◌++◌, length, take, drop, refl, sym, ap, ◌∙◌, arith, append_assoc, append-nil, inl, inr, Option, Ok}
use Rattle.std.specs.Prelude.{min}
use Rattle.std.proofs.lemmas.List.{take-append-drop, take_all, drop_all, length-append, length-take, length-drop}
use Rattle.httparse.specs.Grammar.{RequestHead, print_request, IsRequestHead, print_blank, print_version, print_end, print_section}
use Rattle.httparse.proofs.GrammarLemmas.{ReadsRequest-append, print_request-append}
use Rattle.sc_http.specs.declared.head.Head.{Head}
use Rattle.sc_http.specs.declared.request.Header.{Header}
use Rattle.sc_http.specs.declared.request.Request.{Request}
use Rattle.sc_http.specs.Headers.{closes}
use Rattle.sc_http.specs.Heads.{head_of}
use Rattle.sc_http.specs.Requests.{HasHead, HasRequest, length_in, headers_in, request_of}
use Rattle.sc_http.specs.declared.fault.HttpEnd.{HttpEnd}
use Rattle.sc_http.specs.declared.fault.HttpEnd.TheVariants.{Cut, BadHead, BadLength, ReadFault, Spent, OutOfMemory}
use Rattle.sc_http.specs.Reading.{BodyEnds}
use Rattle.sc_http.specs.Intake.{EndsOf, Takes, Lazily, Reads, HasShortBody}

joined : (rest taken body : List ℕ) (used len : ℕ) → used ≡ min len (length rest) → body ≡ take used rest ++ taken → length body ≡ len → rest ++ taken ≡ body ++ drop used rest
joined rest [] body used len u b l =
    append-nil rest ∙ sym (take-append-drop used rest) ∙ ap (λ t. t ++ drop used rest) (sym (b ∙ append-nil (take used rest)))
joined rest (t ∷ ts) body used len u b l =
    let whole : length rest ≤ used = omega (arith, u, l, ap length b, length-append (take used rest) (t ∷ ts), length-take used rest) in
    let e : body ≡ rest ++ (t ∷ ts) = b ∙ ap (λ x. x ++ (t ∷ ts)) (take_all used rest whole) in
    sym (ap (λ x. body ++ x) (drop_all used rest whole) ∙ append-nil body ∙ e)

drop_front : (xs ys : List ℕ) → drop (length xs) (xs ++ ys) ≡ ys
drop_front [] ys = refl
drop_front (x ∷ xs) ys = drop_front xs ys

drop_twice : (xs ys : List ℕ) (n : ℕ) → drop (length xs + n) (xs ++ ys) ≡ drop n ys
drop_twice [] ys n = ap (λ k. drop k ys) (omega arith)
drop_twice (x ∷ xs) ys n =
    let e : length (x ∷ xs) + n ≡ suc (length xs + n) = omega arith in
    ap (λ k. drop k (x ∷ (xs ++ ys))) e ∙ drop_twice xs ys n

rest_is : (held : List ℕ) (h : RequestHead) (rest : List ℕ) (from : ℕ) → HasHead held h rest → from ≡ length (print_request h) → drop from held ≡ rest
rest_is held h rest from x d = ap (λ k. drop k held) d ∙ ap (drop (length (print_request h))) x.reads.1 ∙ drop_front (print_request h) rest

has_request : (held : List ℕ) (h : RequestHead) (rest taken body : List ℕ) (from used len : ℕ) → HasHead held h rest → from ≡ length (print_request h) → length_in h ≡ Ok len → used ≡ min len (length rest) → body ≡ take used rest ++ taken → length body ≡ len → HasRequest (held ++ taken) h body (drop (from + used) held)
has_request held h rest taken body from used len x d s u b l = record {
  head = record {
    reads = (
      x.reads.0,
      ap (λ t. t ++ taken) x.reads.1 ∙ append_assoc (print_request h) rest taken ∙ ap (λ t. print_request h ++ t) (joined rest taken body used len u b l)
          ∙ ap (λ t. print_request h ++ (body ++ t)) (sym (ap (λ k. drop (k + used) held) d ∙ ap (drop (length (print_request h) + used)) x.reads.1 ∙ drop_twice (print_request h) rest used)),
    );
    short = x.short;
    few = x.few;
  };
  size = s ∙ ap Ok (sym l);
}

pub head_stays : (held : List ℕ) (h : RequestHead) (rest taken : List ℕ) → HasHead held h rest → HasHead (held ++ taken) h (rest ++ taken)
head_stays held h rest taken x = record { reads = ReadsRequest-append held h rest taken x.reads; short = x.short; few = x.few }

-- less than the body is there
short_body : (held : List ℕ) (h : RequestHead) (rest taken body : List ℕ) (used len : ℕ) → HasHead held h rest → length_in h ≡ Ok len → used ≡ min len (length rest) → body ≡ take used rest ++ taken → length body < len → HasShortBody (held ++ taken)
short_body held h rest taken body used len x s u b less = record {
  h = h;
  rest = rest ++ taken;
  len = len;
  head = head_stays held h rest taken x;
  size = s;
  less = omega (arith, u, less, ap length b, length-append (take used rest) taken, length-take used rest, length-append rest taken);
}

some_bytes : (h : RequestHead) → IsRequestHead h → 0 < length (print_request h)
some_bytes h i =
    let tail = 32 ∷ (h.target ++ 32 ∷ (print_version h.minor ++ (print_end h.line_end ++ (print_section h.fields h.last ++ [])))) in
    omega (arith, i.method.0, ap length (print_request-append h []), length-append (print_request h) [], length-append (print_blank h.blank) (h.method ++ tail), length-append h.method tail)

whole_length : (held : List ℕ) (h : RequestHead) (rest taken body : List ℕ) (from used len : ℕ) → HasHead held h rest → from ≡ length (print_request h) → used ≡ min len (length rest) → body ≡ take used rest ++ taken → length body < len → from + length body ≡ length (held ++ taken)
whole_length held h rest taken body from used len x d u b short =
    omega (arith, d, u, short, ap length b, length-append (take used rest) taken, length-take used rest, ap length x.reads.1, length-append (print_request h) rest, length-append held taken)

used_is : (held : List ℕ) (h : RequestHead) (rest : List ℕ) (from used len : ℕ) → HasHead held h rest → from ≡ length (print_request h) → used ≡ min len (length held - from) → used ≡ min len (length rest)
used_is held h rest from used len x d u = omega (arith, d, u, ap length x.reads.1, length-append (print_request h) rest)

front_is : (held : List ℕ) (h : RequestHead) (rest : List ℕ) (from used : ℕ) → HasHead held h rest → from ≡ length (print_request h) → take (from + used - from) (drop from held) ≡ take used rest
front_is held h rest from used x d =
    let e : from + used - from ≡ used = omega arith in
    ap (λ k. take k (drop from held)) e ∙ ap (take used) (rest_is held h rest from x d)

-- what is read of a body is never more than it, so without the last byte it isn't whole
lazily_body : (held : List ℕ) (h : RequestHead) (rest taken body : List ℕ) (used len : ℕ) → HasHead held h rest → length_in h ≡ Ok len → used ≡ min len (length rest) → body ≡ take used rest ++ taken → length body ≤ len → Lazily held taken
lazily_body held h rest [] body used len x s u b le = inl refl
lazily_body held h rest (t ∷ ts) body used len x s u b le =
    let front = take (length ts) (t ∷ ts) in
    let last = drop (length ts) (t ∷ ts) in
    inr (
      front,
      last,
      sym (take-append-drop (length ts) (t ∷ ts)),
      omega (arith, length-drop (length ts) (t ∷ ts)),
      inr (short_body held h rest front (take used rest ++ front) used len x s u refl
          (omega (arith, le, ap length b, length-append (take used rest) (t ∷ ts), length-append (take used rest) front, length-take (length ts) (t ∷ ts)))),
    )

-- the whole body came, so the request is the first of all bytes
pub first_request : (held : List ℕ) (h : RequestHead) (rest body : List ℕ) (from used len n m : ℕ) (left next : Option (List ℕ)) → HasHead held h rest → from ≡ length (print_request h) → length_in h ≡ Ok len → used ≡ min len (length held - from)
    → Takes (take (from + used - from) (drop from held)) body n m left next → length body ≡ len
    → (now : List ℕ) × Reads held now n m left next × HasRequest now h body (drop (from + used) held)
first_request held h rest body from used len n m left next x d s u t l =
    let b : body ≡ take used rest ++ t.taken = t.parts ∙ ap (λ z. z ++ t.taken) (front_is held h rest from used x d) in
    let v = used_is held h rest from used len x d u in (
      held ++ t.taken,
      record {
        takes = record { taken = t.taken; parts = refl; took = t.took; counted = t.counted };
        lazily = lazily_body held h rest t.taken body used len x s v b (omega (arith, l));
      },
      has_request held h rest t.taken body from used len x d s v b l,
    )

-- what is known of all bytes where the body isn't whole
pub record IsShortAt (held now : List ℕ) (count n m : ℕ) (left next : Option (List ℕ)) : Type 0 where
  pub reads : Reads held now n m left next
  pub short : HasShortBody now
  pub some : now ≢ []
  pub all : count ≡ length now

no_bytes : (xs : List ℕ) (n : ℕ) → 0 < n → n ≤ length xs → xs ≢ []
no_bytes xs n p le e = absurd (omega (arith, p, le, ap length e))

pub short_request : (held : List ℕ) (h : RequestHead) (rest body : List ℕ) (from used len n m : ℕ) (left next : Option (List ℕ)) → HasHead held h rest → from ≡ length (print_request h) → length_in h ≡ Ok len → used ≡ min len (length held - from)
    → Takes (take (from + used - from) (drop from held)) body n m left next → length body < len
    → (now : List ℕ) × IsShortAt held now (from + length body) n m left next
short_request held h rest body from used len n m left next x d s u t less =
    let b : body ≡ take used rest ++ t.taken = t.parts ∙ ap (λ z. z ++ t.taken) (front_is held h rest from used x d) in
    let v = used_is held h rest from used len x d u in (
      held ++ t.taken,
      record {
        reads = record {
          takes = record { taken = t.taken; parts = refl; took = t.took; counted = t.counted };
          lazily = lazily_body held h rest t.taken body used len x s v b (omega (arith, less));
        };
        short = short_body held h rest t.taken body used len x s v b less;
        some = no_bytes (held ++ t.taken) from (omega (arith, d, some_bytes h x.reads.0)) (omega (arith, d, ap length x.reads.1, length-append (print_request h) rest, length-append held t.taken));
        all = whole_length held h rest t.taken body from used len x d v b less;
      },
    )

-- the request of a head that is held
abbrev pub made : Head → List ℕ → Bool → Request
made head content closing = record { method = head.method; target = head.target; headers = head.headers; body = content; close = closing }

pub request_made : (head : Head) (h : RequestHead) (content body : List ℕ) (headers : List Header) (closing : Bool) → head ≡ head_of h → content ≡ body → headers ≡ head.headers → closing ≡ closes head.minor headers → made head content closing ≡ request_of h body
request_made head h content body headers closing e b s c =
    let ending : closing ≡ closes h.minor (headers_in h) = c ∙ ap (closes head.minor) (s ∙ ap (λ z. z.headers) e) ∙ ap (λ k. closes k (headers_in h)) (ap (λ z. z.minor) e) in
    λ i. record { method = (e i).method; target = (e i).target; headers = (e i).headers; body = b i; close = ending i }

-- a body that isn't whole ends the request
pub body_ends : (e : HttpEnd) (held : List ℕ) (h : RequestHead) (rest : List ℕ) (from used len n m : ℕ) (left next : Option (List ℕ)) (ended : Bool) (before after : ℕ) → HasHead held h rest → from ≡ length (print_request h) → length_in h ≡ Ok len
    → used ≡ min len (length held - from) → BodyEnds e from (take (from + used - from) (drop from held)) len n m left next ended before after → EndsOf e held n m left next ended before after
body_ends (Cut k) held h rest from used len n m left next ended before after x d s u t some =
    let b = t some in
    let r = short_request held h rest b.0 from used len n m left next x d s u b.1 b.2.0 in
    (r.0, r.1.reads, (b.2.2, r.1.some, b.2.1 ∙ r.1.all, inr r.1.short))
body_ends (BadHead f) held h rest from used len n m left next ended before after x d s u t some = absurd (t some).2
body_ends (BadLength f) held h rest from used len n m left next ended before after x d s u t some = absurd (t some).2
body_ends ReadFault held h rest from used len n m left next ended before after x d s u t some =
    let b = t some in
    let r = short_request held h rest b.0 from used len n m left next x d s u b.1 b.2.0 in
    (r.0, r.1.reads, (inr r.1.short, b.2.1))
body_ends Spent held h rest from used len n m left next ended before after x d s u t some =
    let b = t some in
    let r = short_request held h rest b.0 from used len n m left next x d s u b.1 b.2.0 in
    (r.0, r.1.reads, (inr r.1.short, b.2.1))
body_ends OutOfMemory held h rest from used len n m left next ended before after x d s u t some = absurd (some refl)
