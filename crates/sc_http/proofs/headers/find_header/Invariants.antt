use Rattle.std.proofs.Common.{◌≡◌, ◌≤◌, length}
use Rattle.sc_http.specs.Headers.{values_of}
use Rattle.sc_http.proofs.headers.find_header.Given as goal

abbrev pub invariant-finding : goal.invariant-finding
invariant-finding l = record {
  same : values_of l.name l.rest ≡ values_of l.name l.headers;
  shorter : length l.rest ≤ length l.headers;
}

abbrev pub decreases-finding : goal.decreases-finding
decreases-finding l = length l.rest
