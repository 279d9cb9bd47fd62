-- What is known of bytes that were taken as a head.
use Rattle.std.specs.Prelude.{◌≡◌, ℕ, ◌≤◌, ◌⊎◌, List, length, IsUtf8}
use Rattle.httparse.specs.Grammar.{RequestHead, ReadsRequest, NeverHasRequest, MayBecomeRequest, print_request}
use Rattle.httparse.specs.Spans.{span_bytes, IsHeaderWithin, RequestExceeds}
use Rattle.httparse.specs.declared.spans.HeaderSpan.{HeaderSpan}
use Rattle.sc_http.specs.declared.request.Header.{Header}
use Rattle.sc_http.specs.declared.head.Head.{Head}
use Rattle.sc_http.specs.declared.head.Judged.{Judged}
use Rattle.sc_http.specs.declared.head.Judged.TheVariants.{Found, Unfinished, Malformed}
use Rattle.sc_http.specs.Requests.{headers_in}

-- the head as it is held
abbrev pub head_of : RequestHead → Head
head_of h = record {
  method = h.method;
  target = h.target;
  headers = headers_in h;
  minor = h.minor;
  len = length (print_request h);
}

-- the bytes may go on to a head, or lie within a target that isn't judged before its end, or have a 65th header line
abbrev pub MayBecomeHead : List ℕ → Type 0
MayBecomeHead bytes = MayBecomeRequest bytes ⊎ RequestExceeds 64 bytes

-- no head of at most 64 lines is there yet, and the reader of heads didn't refuse the bytes
pub record HasNoHeadYet (bytes : List ℕ) : Type 0 where
  pub none : (h : RequestHead) (rest : List ℕ) → ReadsRequest bytes h rest → length h.fields ≤ 64 → ⊥
  pub open_still : MayBecomeHead bytes

-- a head of at most 64 lines is there, none is yet, or none can come
abbrev pub HeadOf : List ℕ → Judged → Type 0
HeadOf bytes (Found head) = (h : RequestHead) × (rest : List ℕ) × ReadsRequest bytes h rest × (length h.fields ≤ 64) × (head ≡ head_of h)
HeadOf bytes Unfinished = HasNoHeadYet bytes
HeadOf bytes Malformed = NeverHasRequest bytes

-- the spans lie in the bytes, and the name is a text
abbrev pub IsNamedAt : List ℕ → HeaderSpan → Type 0
IsNamedAt bytes s = IsHeaderWithin (length bytes) s × IsUtf8 (span_bytes bytes s.name)

-- the header at the spans
abbrev pub header_at : List ℕ → HeaderSpan → Header
header_at bytes s = record { name = span_bytes bytes s.name; value = span_bytes bytes s.value }
