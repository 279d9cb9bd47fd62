-- The parts of a request's target: its path up to the first question mark, the query behind it, and the segments of a path
-- (RFC 3986, sections 3.3 and 3.4).
use Rattle.std.specs.Prelude.{◌≡◌, ◌≢◌, ℕ, ◌==◌, List, [], IsUtf8}
use Rattle.std.specs.List.{before_first, after_first}
use Rattle.percent_encoding.specs.Percent.{percent_decode}
use Rattle.sc_base.specs.Parts.{parts_between}

abbrev pub path_of : List ℕ → List ℕ
path_of target = before_first (λ b. b == 63) target

-- nothing where there is no question mark
abbrev pub query_of : List ℕ → List ℕ
query_of target = after_first (λ b. b == 63) target

-- the segments between the slashes of a path: the one before its first slash is empty where the path begins with it
abbrev pub segments : List ℕ → List (List ℕ)
segments path = parts_between 47 path

-- a segment that isn't empty writes the text that it decodes to (RFC 3986, section 2.1)
abbrev pub Writes : List ℕ → List ℕ → Type 0
Writes segment text = (segment ≢ []) × (text ≡ percent_decode segment) × IsUtf8 text
