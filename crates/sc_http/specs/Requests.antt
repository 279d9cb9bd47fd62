-- The requests at the front of a connection's bytes (RFC 9112, sections 2 to 6).
use Rattle.std.specs.Prelude.{◌≡◌, ℕ, ◌≤◌, ◌++◌, List, [], ◌∷◌, map, length, Result, Ok}
use Rattle.httparse.specs.Grammar.{RequestHead, ReadsRequest, print_request}
use Rattle.sc_http.specs.declared.fault.LengthFault.{LengthFault}
use Rattle.sc_http.specs.declared.request.Header.{Header}
use Rattle.sc_http.specs.declared.request.Request.{Request}
use Rattle.sc_http.specs.Headers.{header_of, length_of, closes}

-- the bytes begin with a head of at most 65,536 bytes and 64 header lines
pub record HasHead (bytes : List ℕ) (h : RequestHead) (rest : List ℕ) : Type 0 where
  pub reads : ReadsRequest bytes h rest
  pub short : length (print_request h) ≤ 65536
  pub few : length h.fields ≤ 64

-- the bytes begin with no such head
abbrev pub HasNoHead : List ℕ → Type 0
HasNoHead bytes = (h : RequestHead) (rest : List ℕ) → ¬ (HasHead bytes h rest)

abbrev pub headers_in : RequestHead → List Header
headers_in h = map header_of h.fields

-- the length of the body, as the head's lines state it
abbrev pub length_in : RequestHead → Result ℕ LengthFault
length_in h = length_of (headers_in h)

-- the bytes begin with a whole request: a head within the limits, and a body of its length
pub record HasRequest (bytes : List ℕ) (h : RequestHead) (content rest : List ℕ) : Type 0 where
  pub head : HasHead bytes h (content ++ rest)
  pub size : length_in h ≡ Ok (length content)

-- the bytes begin with no whole request
abbrev pub HasNoWhole : List ℕ → Type 0
HasNoWhole bytes = (h : RequestHead) (content rest : List ℕ) → ¬ (HasRequest bytes h content rest)

-- the request of a head and a body
abbrev pub request_of : RequestHead → List ℕ → Request
request_of h content = record {
  method = h.method;
  target = h.target;
  headers = headers_in h;
  body = content;
  close = closes h.minor (headers_in h);
}

-- the bytes begin with that request
abbrev pub BeginsWithRequest : List ℕ → Request → List ℕ → Type 0
BeginsWithRequest bytes q rest = (h : RequestHead) × (content : List ℕ) × HasRequest bytes h content rest × (q ≡ request_of h content)

-- the bytes are these requests one after the other, and then the rest
abbrev pub AreRequests : List ℕ → List Request → List ℕ → Type 0
AreRequests bytes [] rest = bytes ≡ rest
AreRequests bytes (q ∷ qs) rest = (more : List ℕ) × BeginsWithRequest bytes q more × AreRequests more qs rest

-- the whole requests at the front, and the rest, which begins with none
abbrev pub Requests : List ℕ → List Request → List ℕ → Type 0
Requests bytes qs rest = AreRequests bytes qs rest × HasNoWhole rest
